-- `digits::least_whole` meets its contract: the middle below the f32, and one more where its tie goes down.
use mathlib.Core.Path.{◌≡◌, sym, ap, ◌∙◌}
use Prim.Native.Nat.{ℕ, suc, ◌+◌, ◌*◌, ◌-◌, ◌%◌, ◌^◌, ◌≤◌, ◌<◌}
use native.Mathlib.Nat.{pow-suc, mul-mod_left, mul_assoc, le_of_eq, lt_of_le_of_lt, lt_of_lt_of_le, lt_of_mul-lt-mul_right}
use native.Mathlib.Omega.{arith}
use lib.Dec.{lit≤}
use lib.Pow.{pow-add, pow_mono, shl_lt}
use Rattle.digits.specs.Means.{parts_number}
use Rattle.digits.specs.declared.Parts.{Parts}
use Rattle.digits.proofs.MiddleLaws.{digits_high}
use Rattle.digits.proofs.least_whole.Goals.{After-doublings-k}
use Rattle.digits.proofs.least_whole.Invariants.{Grown}
use Rattle.digits.proofs.least_whole.Goals as goal

-- so the highest part stays small
high_tiny : {w i : ℕ} {p : Parts} → w < 2 ^ 24 → Grown w i p → p.high < 341
high_tiny {w} {i} {p} W g = (lt_of_mul-lt-mul_right (10 ^ 36)
    (lt_of_le_of_lt (part p.n p.middle p.high) (lt_of_lt_of_le total (lit≤ tt))))
  where
    part : (a b h : ℕ) → h * 10 ^ 36 ≤ a + (b + h * 10 ^ 18) * 10 ^ 18
    part a b h = omega arith

    odd : (w : ℕ) → w < 2 ^ 24 → 2 * w + 1 < 2 ^ 25
    odd w h = omega arith

    few : (i : ℕ) → i ≤ 253 → 25 + (i - 150) ≤ 128
    few i h = omega arith

    total : parts_number p < 2 ^ 128
    total =
        lt_of_le_of_lt (le_of_eq g.is)
        (lt_of_lt_of_le (shl_lt {a = 2 * w + 1} 25 (i - 150) (odd w W)) (pow_mono {i = 25 + (i - 150)} {j = 128} (few i g.most)))

high_small : {w i : ℕ} {p : Parts} → w < 2 ^ 24 → Grown w i p → p.high ≤ 2 ^ 32
high_small W g = small _ (high_tiny W g)
  where
    small : (h : ℕ) → h < 341 → h ≤ 2 ^ 32
    small h l = omega arith

grown_next : {w i : ℕ} {p r : Parts} → Grown w i p → i < 253 → parts_number r ≡ parts_number p * 2
    → r.n < 10 ^ 18 → r.middle < 10 ^ 18 → Grown w (i + 1) r
grown_next {w} {i} g h e a b = record {
  least = omega (arith, g.least);
  most = omega arith;
  n = a;
  middle = b;
  is = e ∙ ap (λ (z : ℕ). z * 2) g.is ∙ mul_assoc (2 * w + 1) (2 ^ (i - 150)) 2
      ∙ ap (λ (z : ℕ). (2 * w + 1) * z) (sym (pow-add 2 (i - 150) 1) ∙ ap (λ (z : ℕ). 2 ^ z) (up i g.least));
}
  where
    up : (i : ℕ) → 150 ≤ i → i - 150 + 1 ≡ i + 1 - 150
    up i h = omega arith

-- the digits of the number below
few_digits : (w : After-doublings-k) →
    let b = w.args.bits - 1 in
    b - w.doublings-k.result * 8388608 < 2 ^ 24
few_digits w = rw w.doublings-k.ensures (digits_high (w.args.bits - 1))

omega_no : {A : Type 0} → 9 < 0 → A
omega_no h = absurd (omega arith)

zero_no : {A : Type 0} → 0 < 0 → A
zero_no h = absurd (omega arith)

-- an even number below 10 ^ 18, and one more
even_below : (n x t v : ℕ) → n < 10 ^ 18 → n + x * 10 ^ 18 ≡ v → v % 2 ≡ 0 → n + 1 - t < 10 ^ 18
even_below n x t v h e f = go n t h (even n x v e f)
  where
    even : (n x v : ℕ) → n + x * 10 ^ 18 ≡ v → v % 2 ≡ 0 → n % 2 ≡ 0
    even n x v e f = omega arith

    go : (n t : ℕ) → n < 10 ^ 18 → n % 2 ≡ 0 → n + 1 - t < 10 ^ 18
    go n t h e = omega arith

even_middle : (a k : ℕ) → 151 ≤ k → a * 2 ^ (k - 150) % 2 ≡ 0
even_middle a k h =
    ap (λ (z : ℕ). z % 2)
    (ap (λ (z : ℕ). a * z) (ap (λ (z : ℕ). 2 ^ z) (one_more k h) ∙ pow-suc 2 (k - 151)) ∙ sym (mul_assoc a (2 ^ (k - 151)) 2))
    ∙ mul-mod_left (a * 2 ^ (k - 151)) 2
  where
    one_more : (k : ℕ) → 151 ≤ k → k - 150 ≡ suc (k - 151)
    one_more k h = omega arith

pub doubled-p-requires : goal.doubled-p-requires
doubled-p-requires c =
    let g = c.loop-i.invariant.0 in
    (g.n, g.middle, high_small (few_digits (goal.at.doubled-p-requires c).After-doublings-k) g)

pub loop-i-preserved : goal.loop-i-preserved
loop-i-preserved c =
    let x = c.loop-i.invariant in
    let d = c.doubled-p.ensures in
    (grown_next x.0 (omega arith) d.is d.n d.middle, x.1, x.2)

pub returns-clause-neat : goal.returns-clause-neat
returns-clause-neat c =
    let x = c.loop-i.invariant in
    let b = c.args.bits in
    let e : c.loop-i._i ≡ c.doublings-k.result = omega arith in
    let v = x.0.is ∙ ap (λ (z : ℕ). (2 * (b - 1 - c.doublings-k.result * 8388608) + 1) * 2 ^ (z - 150)) e in
    let g = x.0 in record {
      far = λ h. absurd (omega_no h);
      parts = λ h. absurd (zero_no h);
      n = λ h. rw c.from-2.ensures (even_below c.loop-i.p.n (c.loop-i.p.middle + c.loop-i.p.high * 10 ^ 18) ((b - 1 - c.doublings-k.result * 8388608) % 2) _
          c.loop-i.invariant.0.n v (even_middle _ _ x.2));
      middle = c.loop-i.invariant.0.middle;
      high = lt_of_lt_of_le (high_tiny (few_digits (goal.at.returns-clause-neat c).After-doublings-k) g) (lit≤ tt);
    }
