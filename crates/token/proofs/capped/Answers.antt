-- `token::capped` meets its contract: the loop keeps the number that the digits left make of `v`, or both are large.
use mathlib.Core.List.{List, [], ◌∷◌}
use mathlib.Core.Logic.{◌⊎◌, inl, inr}
use mathlib.Core.Bool.{Bool, true, false}
use lib.Dec.{ltb}
use borrow.Author.Tests.{ltb-true, ltb-false}
use mathlib.Core.Path.{◌≡◌, refl, sym, ap, ◌∙◌, subst}
use Prim.Native.Nat.{ℕ, ◌+◌, ◌*◌, ◌-◌, ◌≤◌, ◌<◌}
use native.Mathlib.Nat.{le_refl, le_trans}
use native.Mathlib.Omega.{arith}
use lib.ListN.{length, get_or, drop, length-drop}
use Rattle.text.specs.Bytes.{decimal, is_digit}
use Rattle.text.proofs.ByteLaws.{run_in, within_is}
use Rattle.limbs.proofs.NumberLaws.{decimal_next, decimal_none}
use Rattle.token.proofs.capped.Invariants.{Goes}
use Rattle.token.proofs.capped.Goals.{In-loop-b}
use Rattle.token.proofs.capped.Goals as goal

decimal_ge : (v : ℕ) (l : List ℕ) → v ≤ decimal v l
unfolding decimal
decimal_ge v [] = le_refl v
decimal_ge v (b ∷ l) = le_trans (more v (b - 48)) (decimal_ge (v * 10 + (b - 48)) l)
  where
    more : (v d : ℕ) → v ≤ v * 10 + d
    more v d = omega arith

goes_on : (t : List ℕ) (i v n r : ℕ) → i < length t → Goes v (drop i t) n
    → (v ≤ 4294967295 → r ≡ v * 10 + (get_or t i 0 - 48)) → (4294967295 < v → r ≡ v)
    → Goes r (drop (i + 1) t) n
goes_on t i v n r l (inr k) f g = inr (subst (λ (z : ℕ). 4294967295 < z) (sym (g k.0)) k.0, k.1)
goes_on t i v n r l (inl e) f g = by (small v)
  where
    small : (v : ℕ) → (v ≤ 4294967295) ⊎ (4294967295 < v)
    small v = go (ltb 4294967295 v) refl
      where
        go : (b : Bool) → ltb 4294967295 v ≡ b → (v ≤ 4294967295) ⊎ (4294967295 < v)
        go true q = inr (ltb-true 4294967295 v q)
        go false q = inl (ltb-false 4294967295 v q)

    by : (v ≤ 4294967295) ⊎ (4294967295 < v) → Goes r (drop (i + 1) t) n
    by (inl s) = inl (ap (λ (z : ℕ). decimal z (drop (i + 1) t)) (f s) ∙ sym (decimal_next v t i l) ∙ e)
    by (inr b) =
        inr (subst (λ (z : ℕ). 4294967295 < z) (sym (g b)) b, large v _ (decimal_ge v (drop i t)) b e)
      where
        large : (v m : ℕ) → v ≤ m → 4294967295 < v → m ≡ n → 4294967295 < n
        large v m p q e = omega arith

ended : (v n : ℕ) (l : List ℕ) → length l ≡ 0 → Goes v l n → (v ≡ n) ⊎ ((4294967295 < v) × (4294967295 < n))
ended v n l z (inl e) = inl (sym (decimal_none v l z) ∙ e)
ended v n l z (inr e) = inr e

-- the byte is a digit
figure : (w : In-loop-b) →
    let b = get_or w.args.digits.now w.loop-b.b-index 0 in
    (48 ≤ b) × (b ≤ 57)
figure w =
    within_is 48 57 (get_or w.args.digits.now w.loop-b.b-index 0)
    (run_in is_digit w.args.digits.now w.loop-b.b-index (omega (arith, w.requires, w.loop-b-test.true)))

pub overflow_sub-b : goal.overflow_sub-b
overflow_sub-b c = let f = figure (goal.at.overflow_sub-b c).In-loop-b in omega (arith, f.0)

pub grown-v-requires : goal.grown-v-requires
grown-v-requires c = let f = figure (goal.at.grown-v-requires c).In-loop-b in omega (arith, f.1, c.from.ensures)

pub loop-b-preserved : goal.loop-b-preserved
loop-b-preserved c =
    let g = c.grown-v.ensures in
    goes_on c.args.digits.now c.loop-b.b-index c.loop-b.v _ _ c.loop-b-test.true c.loop-b.invariant
    (λ h. g.0 h ∙ ap (λ (z : ℕ). c.loop-b.v * 10 + z) c.from.ensures) g.1

pub returns : goal.returns
returns c = ended c.loop-b.v _ _ (omega (arith, length-drop c.loop-b.b-index c.args.digits.now)) c.loop-b.invariant
