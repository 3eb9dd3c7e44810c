-- Laws of runs of blanks.
use Prim.Native.Nat.{ℕ, zero, suc, ◌+◌, ◌≤◌, ◌<◌}
use mathlib.Core.List.{List, [], ◌∷◌}
use mathlib.Core.Bool.{Bool, true, false, ◌&&◌}
use mathlib.Core.Path.{◌≡◌, refl, sym, ◌∙◌, subst}
use native.Mathlib.Omega.{arith}
use lib.Dec.{ltb, eqb}
use lib.ListN.{length, get_or, drop, length-drop}
use lib.Seq.{drop-drop, get_or-drop}
use borrow.Author.Tests.{ltb-true, ltb-false, eqb-true, ne_eqb}
use Rattle.text.specs.Bytes.{run, one_of, is_blank}
use Rattle.text.proofs.ByteLaws.{run_yes, run_no, run_at, run_end, run_stop}
use Rattle.token.proofs.LexLaws.{inside}
use Rattle.token.proofs.WholeLaws.{never, both}

-- a run of at least k bytes, and one more that passes
pub run_more : (p : ℕ → Bool) (t : List ℕ) (from k : ℕ) → k ≤ run p (drop from t) → from + k < length t
    → p (get_or t (from + k) 0) ≡ true → k + 1 ≤ run p (drop from t)
run_more p t from k h l e = go (ltb k (run p (drop from t))) refl
  where
    go : (x : Bool) → ltb k (run p (drop from t)) ≡ x → k + 1 ≤ run p (drop from t)
    go true q = omega (arith, ltb-true k (run p (drop from t)) q)
    go false q =
        let z : run p (drop from t) ≡ k = omega (arith, ltb-false k (run p (drop from t)) q) in
        let s = run_stop p (drop from t) (omega (arith, length-drop from t)) in
        absurd (never (sym (rw (z, get_or-drop) at s) ∙ e))

-- a run from its k-th byte on
pub run-behind : (p : ℕ → Bool) (t : List ℕ) (k : ℕ) → k ≤ run p t → run p t ≡ k + run p (drop k t)
unfolding run
run-behind p t zero h = omega arith
run-behind p [] (suc k) h = absurd (omega arith)
run-behind p (b ∷ t) (suc k) h = go (p b) refl (run-behind p t k)
  where
    go : (x : Bool) → p b ≡ x → (k ≤ run p t → run p t ≡ k + run p (drop k t)) → run p (b ∷ t) ≡ suc k + run p (drop k t)
    go true e r = omega (arith, run_yes p b t e, r (omega (arith, run_yes p b t e)))
    go false e r = absurd (omega (arith, run_no p b t e))

blank_low : (b : ℕ) → 32 < b → is_blank b ≡ false
unfolding one_of
blank_low b h =
    rw (ne_eqb b 32 (λ q. omega arith), ne_eqb b 9 (λ q. omega arith), ne_eqb b 10 (λ q. omega arith), ne_eqb b 13 (λ q. omega arith))

blank-space : (b : ℕ) → b ≡ 32 → is_blank b ≡ true
unfolding one_of
blank-space b h = subst (λ (x : ℕ). is_blank x ≡ true) (sym h) refl

-- no blank at a place
pub none_blank : (t : List ℕ) (i : ℕ) → 32 < get_or t i 0 → run is_blank (drop i t) ≡ 0
none_blank t i h = run_end is_blank t i (inside t i _ refl (omega arith)) (blank_low _ h)

-- a space, and no blank behind it
pub one-blank : (t : List ℕ) (i : ℕ) → get_or t i 0 ≡ 32 → 32 < get_or t (i + 1) 0 → run is_blank (drop i t) ≡ 1
one-blank t i h g = omega (arith, run_at is_blank t i (inside t i 32 h (omega arith)) (blank-space _ h), none_blank t (i + 1) g)

-- one space more, or not
pub spaces_more : (t : List ℕ) (at n : ℕ) (all : Bool) → (all ≡ true → n ≤ run is_blank (drop at t)) → at + n < length t
    → (all && eqb (get_or t (at + n) 0) 32) ≡ true → n + 1 ≤ run is_blank (drop at t)
spaces_more t at n all h l e =
    let a = both all (eqb (get_or t (at + n) 0) 32) e in
    run_more is_blank t at n (h a.0) l (blank-space _ (eqb-true _ 32 a.1))

pub spaces_behind : (t : List ℕ) (i : ℕ) → 8 ≤ run is_blank (drop i t) → run is_blank (drop i t) ≡ 8 + run is_blank (drop (i + 8) t)
spaces_behind t i h = run-behind is_blank (drop i t) 8 h ∙ (rw drop-drop)
