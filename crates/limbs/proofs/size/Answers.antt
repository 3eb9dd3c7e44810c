-- `limbs::size` meets its contract: the limbs above i are 0.
use mathlib.Core.List.{List}
use mathlib.Core.Path.{◌≡◌, refl, sym, ap, ◌∙◌, subst}
use Prim.Native.Nat.{ℕ, suc, ◌+◌, ◌-◌, ◌*◌, ◌^◌, ◌<◌, ◌≤◌}
use native.Mathlib.Omega.{arith}
use lib.Count.{count_leading_zeros, leading_top}
use lib.ListN.{length, get_or}
use Rattle.limbs.specs.LimbMeans.{up_to, val}
use Rattle.limbs.proofs.LimbLaws.{below_pow, top_size, top_zero}
use Rattle.limbs.proofs.size.Goals as goal

-- what a list's highest limb says of it, r being what the code makes of it
sized : (a : List ℕ) (i r : ℕ) → 0 < i → ((k : ℕ) → get_or a k 0 < 4294967296) → up_to (length a) a ≡ up_to i a → 0 < get_or a (i - 1) 0
    → r ≡ (i - 1) * 32 + 32 - count_leading_zeros 32 (get_or a (i - 1) 0)
    → (val a < 2 ^ r) × (0 < r → 2 ^ r ≤ val a * 2)
sized a i r z k e h q =
    let x = get_or a (i - 1) 0 in
    let t = leading_top 32 x h (k (i - 1)) in
    let s = top_size (i - 1) a t.0 (below_pow (i - 1) a k) t.2 t.3 in
    let one : i - 1 + 1 ≡ i = omega arith in
    let same : up_to (i - 1 + 1) a ≡ val a = ap (λ (n : ℕ). up_to n a) one ∙ sym e in
    let size : (i - 1) * 32 + suc t.0 ≡ r = omega (arith, t.1, q) in
    let low = subst (λ (n : ℕ). up_to (i - 1 + 1) a < 2 ^ n) size s.0 in
    let high = subst (λ (n : ℕ). 2 ^ n ≤ up_to (i - 1 + 1) a * 2) size s.1 in
    (subst (λ (n : ℕ). n < 2 ^ r) same low, λ _. subst (λ (n : ℕ). 2 ^ r ≤ n * 2) same high)

nothing : (a : List ℕ) (i : ℕ) → i ≡ 0 → up_to (length a) a ≡ up_to i a → (val a < 2 ^ 0) × (0 < 0 → 2 ^ 0 ≤ val a * 2)
unfolding up_to
nothing a i e h =
    let z : val a ≡ 0 = h ∙ ap (λ (n : ℕ). up_to n a) e in
    (subst (λ (n : ℕ). n < 2 ^ 0) (sym z) (omega arith), λ q. absurd (omega arith))

pub returns-then-a-i-ne0 : goal.returns-then-a-i-ne0
returns-then-a-i-ne0 c =
    sized c.args.a.now c.loop-i.i _ c.loop-i-test.true
    (λ k. omega (arith, c.type_inv.a k))
    c.loop-i.invariant (omega (arith, c.if-a-i-ne0.true)) refl

pub loop-i-preserved : goal.loop-i-preserved
loop-i-preserved c = c.loop-i.invariant ∙ top_zero c.loop-i.i c.args.a.now c.loop-i-test.true c.if-a-i-ne0.false

pub returns : goal.returns
returns c = nothing c.args.a.now c.loop-i.i (omega arith) c.loop-i.invariant
