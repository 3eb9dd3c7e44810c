-- How many digits a number has, counted up from one more than its places.
use Prim.Native.Nat.{ℕ, ◌+◌, ◌*◌, ◌^◌, ◌≤◌, ◌<◌}
use mathlib.Core.Path.{◌≡◌, sym, ap, ◌∙◌}
use native.Mathlib.Nat.{le_trans, le_of_eq, lt_of_le_of_lt, lt_of_not-le, not-le_of_lt, pow-le-pow_right, pow-suc}
use native.Mathlib.Numerals.{add-one}
use native.Mathlib.Omega.{arith}
use lib.Dec.{lit<}
use Rattle.digits.specs.Means.{Wide}

-- `limit` is 10 ^ digits, and fewer digits are not enough
pub record Widening (n p digits limit : ℕ) : Type 0 where
  pub above : p < digits
  pub power : limit ≡ 10 ^ digits
  pub few : digits ≤ 19
  pub least : (e : ℕ) → p < e → n < 10 ^ e → digits ≤ e

ten_le : {i j : ℕ} → i ≤ j → 10 ^ i ≤ 10 ^ j
ten_le h = pow-le-pow_right {n = 10} (lit< tt) h

ten_lt : (i j : ℕ) → 10 ^ i < 10 ^ j → i < j
ten_lt i j h = lt_of_not-le (λ (g : j ≤ i). not-le_of_lt h (ten_le g))

pub ten_times : (l k : ℕ) → l ≡ 10 ^ k → l * 10 ≡ 10 ^ (k + 1)
ten_times l k e = ap (λ (x : ℕ). x * 10) e ∙ sym (pow-suc 10 k) ∙ ap (λ (x : ℕ). 10 ^ x) (sym (add-one k))

-- 10 ^ (k + 1), for a k below 19, stays below 2 ^ 64
pub ten_high : {l k : ℕ} → l ≡ 10 ^ k → k ≤ 18 → l * 10 ≤ 10 ^ 19
ten_high {l} {k} e h = le_trans (le_of_eq (ten_times l k e)) (ten_le (more k h))
  where
    more : (k : ℕ) → k ≤ 18 → k + 1 ≤ 19
    more k h = omega arith

pub widens : {n p l : ℕ} → p ≤ 9 → l ≡ 10 ^ p → Widening n p (p + 1) (l * 10)
widens {n} {p} {l} h e = record {
  above = omega arith;
  power = ten_times l p e;
  few = omega arith;
  least = λ x g k. omega arith;
}

-- one more, where limit ≤ n
pub small : {n p digits limit : ℕ} → Widening n p digits limit → n < 10 ^ 19 → limit ≤ n → digits < 19
small {digits = d} w h l = ten_lt d 19 (lt_of_le_of_lt (le_trans (le_of_eq (sym w.power)) l) h)

pub wider : {n p digits limit : ℕ} → Widening n p digits limit → n < 10 ^ 19 → limit ≤ n → Widening n p (digits + 1) (limit * 10)
wider {digits = d} {limit = l} w h g =
    let s = small w h g in
    record {
      above = omega (arith, w.above);
      power = ten_times l d w.power;
      few = omega arith;
      least = λ e a b. more e (w.least e a b) (ten_lt d e (lt_of_le_of_lt (le_trans (le_of_eq (sym w.power)) g) b));
    }
  where
    more : (e : ℕ) → d ≤ e → d < e → d + 1 ≤ e
    more e a b = omega arith

-- 10 ^ digits stays below 2 ^ 64
pub high : {n p digits limit : ℕ} → Widening n p digits limit → limit ≤ 10 ^ 19
high w = le_trans (le_of_eq w.power) (ten_le w.few)

pub wide : {n p digits limit : ℕ} → Widening n p digits limit → n < limit → Wide n p digits limit
wide w h = record { above = w.above; power = w.power; enough = h; least = w.least }
