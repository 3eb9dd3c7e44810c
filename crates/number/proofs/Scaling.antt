-- A fraction n / d scaled by powers of two, found from the leading zeros of n and d, so that its whole part has 24 binary digits.
use mathlib.Core.Path.{◌≡◌, sym, ap, ◌∙◌, subst}
use mathlib.Core.Logic.{inr}
use mathlib.Core.Bool.{Bool, false, not}
use Prim.Native.Nat.{ℕ, suc, ◌+◌, ◌-◌, ◌*◌, ◌/◌, ◌%◌, ◌^◌, ◌≤◌, ◌<◌}
use native.Mathlib.Nat.{le_trans, le_of_eq, lt_of_not-le, suc_inj, add-suc, add_comm, zero-add, mul_assoc, mul-le-mul}
use native.Mathlib.Nat.{mul-le-mul_right, mul-mul-mul_comm, mod-eq_of_lt, le-div_iff_mul-le, div-lt_iff_lt-mul}
use native.Mathlib.Omega.{arith}
use lib.Count.{count_leading_zeros, leading_top}
use lib.Dec.{eqb}
use lib.Ieee.{binary32, round, to_bits}
use lib.Ieee.Nearest.{closest}
use lib.Pow.{pow-add, pow_mono, shl_lt}
use Rattle.number.specs.Rounded.{fraction, rounded}
use Rattle.number.proofs.Round.{Scaled, Kept, bits_by}
use Rattle.number.proofs.Exactly.{rounded_by}

-- ---- n times 2 ^ z has 64 binary digits
record Raised (n z : ℕ) : Type 0 where
  short : z ≤ 63
  low : 2 ^ 63 ≤ n * 2 ^ z
  high : n * 2 ^ z < 2 ^ 64

raised : (n : ℕ) → 0 < n → n < 2 ^ 64 → Raised n (count_leading_zeros 64 n)
raised n h l =
    let t = leading_top 64 n h l in
    let z = count_leading_zeros 64 n in
    record {
      short = omega (arith, t.1);
      low = subst (λ (x : ℕ). 2 ^ x ≤ n * 2 ^ z) (add_comm t.0 z ∙ suc_inj (sym (add-suc z t.0) ∙ t.1))
          (le_trans (le_of_eq (pow-add 2 t.0 z)) (mul-le-mul_right (2 ^ z) t.2));
      high = subst (λ (x : ℕ). n * 2 ^ z < 2 ^ x) (add_comm (suc t.0) z ∙ t.1) (shl_lt {a = n} (suc t.0) z t.3);
    }

-- ---- n of 64 digits and d, up to 10 ^ 9, of 40: what a shift of a u64 keeps of them is all
pub record Aligned (n d z l : ℕ) : Type 0 where
  pub z_high : z ≤ 63
  pub l_low : 24 ≤ l
  pub l_high : l ≤ 63
  pub a_is : (n * 2 ^ z) % 2 ^ 64 ≡ n * 2 ^ z
  pub a_low : 2 ^ 63 ≤ (n * 2 ^ z) % 2 ^ 64
  pub b-is : (d * 2 ^ (l - 24)) % 2 ^ 64 ≡ d * 2 ^ (l - 24)
  pub b_low : 2 ^ 39 ≤ (d * 2 ^ (l - 24)) % 2 ^ 64
  pub b_high : (d * 2 ^ (l - 24)) % 2 ^ 64 < 2 ^ 40

many : (d l : ℕ) → d ≤ 1000000000 → Raised d l → 24 ≤ l
many d l h r = lt_of_not-le (λ (g : l ≤ 23). no (d * 2 ^ l) (mul-le-mul h (pow_mono g)) r.low)
  where
    no : (x : ℕ) → x ≤ 1000000000 * 2 ^ 23 → 2 ^ 63 ≤ x → ⊥
    no x a b = omega arith

pub aligned : (n d : ℕ) → (n ≡ 0 → ⊥) → n < 2 ^ 64 → 0 < d → d ≤ 1000000000 → Aligned n d (count_leading_zeros 64 n) (count_leading_zeros 64 d)
aligned n d N F D H =
    let z = count_leading_zeros 64 n in
    let l = count_leading_zeros 64 d in
    let r = raised n (omega arith) F in
    let s = raised d D (omega arith) in
    let m = many d l H s in
    let e : d * 2 ^ (l - 24) * 2 ^ 24 ≡ d * 2 ^ l = mul_assoc d (2 ^ (l - 24)) (2 ^ 24)
    ∙ ap (λ (x : ℕ). d * x) (sym (pow-add 2 (l - 24) 24) ∙ ap (λ (x : ℕ). 2 ^ x) (rest l m))
    in
    record {
      z_high = r.short;
      l_low = m;
      l_high = s.short;
      a_is = mod-eq_of_lt r.high;
      a_low = same (n * 2 ^ z) r.low r.high;
      b-is = mod-eq_of_lt (fit (d * 2 ^ (l - 24)) (d * 2 ^ l) e s.high);
      b_low = low (d * 2 ^ (l - 24)) (d * 2 ^ l) e s.low s.high;
      b_high = high (d * 2 ^ (l - 24)) (d * 2 ^ l) e s.high;
    }
  where
    rest : (l : ℕ) → 24 ≤ l → l - 24 + 24 ≡ l
    rest l h = omega arith

    same : (x : ℕ) → 2 ^ 63 ≤ x → x < 2 ^ 64 → 2 ^ 63 ≤ x % 2 ^ 64
    same x h k = omega arith

    fit : (x w : ℕ) → x * 2 ^ 24 ≡ w → w < 2 ^ 64 → x < 2 ^ 64
    fit x w e h = omega arith

    low : (x w : ℕ) → x * 2 ^ 24 ≡ w → 2 ^ 63 ≤ w → w < 2 ^ 64 → 2 ^ 39 ≤ x % 2 ^ 64
    low x w e h k = omega arith

    high : (x w : ℕ) → x * 2 ^ 24 ≡ w → w < 2 ^ 64 → x % 2 ^ 64 < 2 ^ 40
    high x w e h = omega arith

-- ---- n moved up by z digits and d by y
scaled : (n d z y k : ℕ) → z + k ≡ 149 + y → Scaled n d (n * 2 ^ z) (d * 2 ^ y) k
scaled n d z y k e =
    mul-mul-mul_comm n (2 ^ 149) d (2 ^ y)
    ∙ ap (λ (x : ℕ). n * d * x) (sym (pow-add 2 149 y) ∙ ap (λ (x : ℕ). 2 ^ x) (sym e) ∙ pow-add 2 z k)
    ∙ mul-mul-mul_comm n d (2 ^ z) (2 ^ k)

-- where the whole part of the scaled fraction has 24 digits: the bits, and whether the fraction was rounded
module _ (n d z y k a b : ℕ) (D : 0 < d) (p : a ≡ n * 2 ^ z) (q : b ≡ d * 2 ^ y)
    (e : z + k ≡ 149 + y) (K : k ≤ 253) (B : 0 < b) (l : 2 ^ 23 * b ≤ a) (h : a < 2 ^ 24 * b) where
  fits : Scaled n d a b k
  fits = ap (λ (x : ℕ). n * 2 ^ 149 * x) q ∙ scaled n d z y k e ∙ ap (λ (x : ℕ). x * (d * 2 ^ k)) (sym p)

  kept : Kept k (a / b)
  kept = ((div-lt_iff_lt-mul B).1 h, inr ((le-div_iff_mul-le B).1 l))

  pub scaled_bits : k * 2 ^ 23 + closest a b ≡ to_bits binary32 (round binary32 false n d)
  scaled_bits = sym (bits_by false n d a b k D B fits kept K ∙ zero-add (k * 2 ^ 23 + closest a b))

  pub scaled_rounded : (s : Bool) → not (eqb (a % b) 0) ≡ rounded (round binary32 s n d) (fraction s n d)
  scaled_rounded s = sym (rounded_by s n d a b k D B fits kept K)

pub whole_below : (a b m : ℕ) → 0 < b → a < m * b → a / b < m
whole_below a b m B h = (div-lt_iff_lt-mul B).1 h
