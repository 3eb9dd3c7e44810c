-- The bits 0 are written 0; what is below 10 ^ -9 or above 10 ^ 40 is not written.
use Prim.Native.Nat.{ℕ, ◌^◌, ◌≤◌, ◌<◌, zero-le}
use mathlib.Core.Logic.{⊎_elim}
use mathlib.Core.Option.{none, some}
use mathlib.Core.Path.{◌≡◌, refl, sym, ap, ◌∙◌}
use native.Mathlib.Nat.{le_refl, le_trans, le_of_eq, le_of_lt, lt_irrefl, lt_of_lt_of_le}
use native.Mathlib.Nat.{lt_of_le_of_lt, not-suc-le-zero, eq-zero-or-pos, mul-le-mul_right}
use native.Mathlib.Omega.{arith}
use lib.Dec.{lit<, lit≤}
use lib.Ieee.{round, div, to_bits}
use Rattle.number.specs.Number.{percent, bits}
use Rattle.digits.specs.Fewest.{trimmed, whole_digits, last_digits, count, limit, fewest, least_percent}
use Rattle.digits.specs.AnswerMeans.{decimal_of}
use Rattle.digits.specs.Means.{bits_of, percent_bits, lowest, least, infinity}
use Rattle.digits.proofs.NumeralLaws.{count_trim, long_above}
use Rattle.digits.proofs.FewestLaws.{Shortest, shortest_is, none_fewest}
use Rattle.digits.proofs.OrderLaws.{bits_mono}
use Rattle.digits.proofs.PercentLaws.{percent_mono, first-is, none_is}

-- ---- numbers

zero_bits : bits_of 0 (10 ^ 40) ≡ 0
unfolding bits_of bits round to_bits
zero_bits = refl

one-bits : bits_of 1 (10 ^ 40) ≡ least
unfolding bits_of bits round to_bits
one-bits = refl

most-bits : bits_of (10 ^ 80) (10 ^ 40) ≡ infinity
unfolding bits_of bits round to_bits
most-bits = refl

one-digit : count 0 ≡ 1
unfolding count trimmed whole_digits last_digits
one-digit = refl

no_places : trimmed 40 0 ≡ (0, 0)
unfolding trimmed
no_places = refl

zero_shortest : Shortest 0 0
zero_shortest = record {
  below = unfold limit in lit< tt;
  reads = zero_bits;
  fewest = λ k h r. omega (arith, one-digit, count_trim k, long_above (trimmed 40 k).0 (trimmed 40 k).1);
  smallest = λ k h r e. zero-le;
}

pub zero-fewest : (b : ℕ) → b ≡ 0 → fewest b ≡ some 0
zero-fewest b e = ap fewest e ∙ shortest_is 0 0 zero_shortest

pub zero-written : (b : ℕ) → b ≡ 0 → some (0, 0) ≡ decimal_of (fewest b)
zero-written b e = sym (ap decimal_of (zero-fewest b e) ∙ ap some no_places)

-- the bits of what can be written: 0, or between the two
bits_low : (k : ℕ) → 0 < k → least ≤ bits_of k (10 ^ 40)
bits_low k h = le_trans (le_of_eq (sym one-bits)) (bits_mono 1 (10 ^ 40) k (10 ^ 40) (lit< tt) (lit< tt) (mul-le-mul_right (10 ^ 40) h))

bits_high : (k : ℕ) → k < limit → bits_of k (10 ^ 40) ≤ infinity
unfolding limit
bits_high k h =
    le_trans (bits_mono k (10 ^ 40) (10 ^ 80) (10 ^ 40) (lit< tt) (lit< tt) (mul-le-mul_right (10 ^ 40) (le_of_lt h))) (le_of_eq most-bits)

module _ (b : ℕ) where
  pub none_below : (b ≡ 0 → ⊥) → b < least → fewest b ≡ none
  none_below z h =
      none_fewest b (λ k l r. ⊎_elim (λ (e : k ≡ 0). z (sym r ∙ ap (λ (x : ℕ). bits_of x (10 ^ 40)) e ∙ zero_bits))
      (λ (g : 0 < k). lt_irrefl b (lt_of_lt_of_le h (le_trans (bits_low k g) (le_of_eq r)))) (eq-zero-or-pos k))

  pub none_above : infinity < b → fewest b ≡ none
  none_above h = none_fewest b (λ k l r. lt_irrefl b (lt_of_le_of_lt (le_trans (le_of_eq (sym r)) (bits_high k l)) h))

-- ---- percents

smallest-percent : percent_bits 1 ≡ 1008981770
unfolding percent_bits bits percent round div to_bits
smallest-percent = refl

largest_percent : percent_bits (10 ^ 40) ≡ 2139095040
unfolding percent_bits bits percent round div to_bits
largest_percent = refl

zero-percent : percent_bits 0 ≡ 0
unfolding percent_bits bits percent round div to_bits
zero-percent = refl

pub zero-percent-written : (b : ℕ) → b ≡ 0 → least_percent b ≡ some 0
zero-percent-written b e =
    ap least_percent e
    ∙ first-is (record { top = zero-le; before = λ n h. absurd (not-suc-le-zero h); reached = λ s. zero-le }) (lit< tt) zero-percent

module _ (b : ℕ) where
  pub no_percent-below : (b ≡ 0 → ⊥) → b < lowest → least_percent b ≡ none
  no_percent-below z h =
      none_is {b = b} {r = 1} (record {
        top = lit≤ tt;
        before = λ k l. lt_of_le_of_lt (le_of_eq (ap percent_bits (zero k l) ∙ zero-percent)) (above b z);
        reached = λ s. le_trans (le_of_lt (lt_of_lt_of_le h (lit≤ tt))) (le_of_eq (sym smallest-percent));
      }) (λ s e. lt_irrefl b (lt_of_lt_of_le h (le_trans (lit≤ tt) (le_of_eq (sym smallest-percent ∙ e)))))
    where
      zero : (k : ℕ) → k < 1 → k ≡ 0
      zero k h = omega arith

      above : (b : ℕ) → (b ≡ 0 → ⊥) → 0 < b
      above b z = omega arith

  pub no_percent_above : infinity < b → least_percent b ≡ none
  no_percent_above h =
      none_is {b = b} {r = 10 ^ 40} (record {
        top = le_refl (10 ^ 40);
        before = λ k l. lt_of_le_of_lt (le_trans (percent_mono k (10 ^ 40) (le_of_lt l)) (le_trans (le_of_eq largest_percent) (lit≤ tt))) h;
        reached = λ s. absurd (lt_irrefl (10 ^ 40) s);
      }) (λ s e. lt_irrefl (10 ^ 40) s)
