-- Long division, a binary digit at a time, as the certificate of `number`'s rounding.
use mathlib.Core.Path.{◌≡◌, refl, sym, ap, ◌∙◌, subst}
use mathlib.Core.Logic.{◌⊎◌, inl, inr}
use Prim.Native.Nat.{ℕ, zero, suc, ◌+◌, ◌-◌, ◌*◌, ◌/◌, ◌%◌, ◌^◌, ◌≤◌, ◌<◌}
use native.Mathlib.Nat.{le_trans, le_of_eq, le_of_lt, lt_of_lt_of_le, mul_comm, mul_assoc, mul_left_comm}
use native.Mathlib.Nat.{mul_right_comm, add-mul, mul-pos, mul-le-mul_left, zero-mul, zero-add, le-div_iff_mul-le}
use native.Mathlib.Nat.{mul-lt-mul_of_pos_right, mul-one, pow-le-pow_right, eq_of_mul-eq-mul_right}
use native.Mathlib.Omega.{arith}
use mathlib.Core.Bool.{Bool, true, false}
use lib.Dec.{lit≤, lit<}
use lib.Arith.{digits_div, digits_mod}
use lib.Pow.{pow-add, pow_pos}
use mathlib.Core.Bool.{not}
use lib.Dec.{eqb}
use lib.Ieee.{Float, inf, binary32, round, to_bits}
use lib.Ieee.Nearest.{closest}
use lib.Ieee.Positive.{first_pos}
use Rattle.number.proofs.Closest.{closest_below, closest_tie, closest_above, closest_le}
use Rattle.number.proofs.Round.{Scaled, Kept, bits_by, bits_inf, inf_by}
use Rattle.number.proofs.Exactly.{rounded_by}
use Rattle.number.specs.Number.{bits}
use Rattle.number.specs.Rounded.{fraction, rounded}
use Rattle.number.specs.declared.Bits.{Bits}
use Rattle.limbs.specs.Means.{Nearest}

inf_rounded : (t : Bool) (num den : ℕ) → rounded (inf t) (fraction t num den) ≡ true
unfolding rounded
inf_rounded t num den = refl

-- ---- doublings

pub twice_above : (a b : ℕ) → a < b → a < b * 2
twice_above a b h = omega arith

-- a has x binary digits, b at least y: a doubled as often as y is more
shifted_some : (a b x y n : ℕ) → a < 2 ^ x → (0 < y → 2 ^ y ≤ b * 2) → suc n ≤ y - x → a * 2 ^ suc n < b * 2
shifted_some a b x y n h g l =
    lt_of_lt_of_le (mul-lt-mul_of_pos_right h (pow_pos (suc n)))
    (le_trans (le_of_eq (sym (pow-add 2 x (suc n)))) (le_trans (pow-le-pow_right {n = 2} (lit< tt) (room x y n l)) (g (some x y n l))))
  where
    room : (x y n : ℕ) → suc n ≤ y - x → x + suc n ≤ y
    room x y n l = omega arith

    some : (x y n : ℕ) → suc n ≤ y - x → 0 < y
    some x y n l = omega arith

pub shifted : (a b x y n : ℕ) → a < 2 ^ x → (0 < y → 2 ^ y ≤ b * 2) → n ≤ y - x → a < b → a * 2 ^ n < b * 2
shifted a b x y zero h g l z = subst (λ (w : ℕ). w < b * 2) (sym (mul-one a)) (twice_above a b z)
shifted a b x y (suc n) h g l z = shifted_some a b x y n h g l

pub shifted_room : (a b x y n p : ℕ) → b < 2 ^ y → (0 < x → 2 ^ x ≤ a * 2) → n ≤ x - y → a * 4 < p → b * 2 < p
    → (b * 2 ^ n * 2 < p) × ((n ≡ 0) ⊎ (b * 2 ^ n ≤ a * 2))
shifted_room a b x y zero p h g l r s = (subst (λ (w : ℕ). w * 2 < p) (sym (mul-one b)) s, inl refl)
shifted_room a b x y (suc n) p h g l r s =
    let z = shifted_some b a y x n h g l in
    (room (b * 2 ^ suc n) a p z r, inr (le_of_lt z))
  where
    room : (w a p : ℕ) → w < a * 2 → a * 4 < p → w * 2 < p
    room w a p h r = omega arith

pub half_below : (w p : ℕ) → w * 2 < p → w < p
half_below w p h = omega arith

pub below : (x y p : ℕ) → x < y → y < p → x < p
below x y p h l = omega arith

-- n of k doublings
pub lowered : (a v n k : ℕ) → v ≡ a * 2 ^ n → n ≤ k → v * 2 ^ (k - n) ≡ a * 2 ^ k
lowered a v n k e h =
    ap (λ (z : ℕ). z * 2 ^ (k - n)) e ∙ mul_assoc a (2 ^ n) (2 ^ (k - n))
    ∙ ap (λ (z : ℕ). a * z) (sym (pow-add 2 n (k - n)) ∙ ap (λ (z : ℕ). 2 ^ z) (whole n k h))
  where
    whole : (n k : ℕ) → n ≤ k → n + (k - n) ≡ k
    whole n k h = omega arith

pub raise_first : (v k : ℕ) → v ≡ v * 2 ^ (k - k)
raise_first v k = sym (ap (λ (z : ℕ). v * 2 ^ z) (none k) ∙ mul-one v)
  where
    none : (k : ℕ) → k - k ≡ 0
    none k = omega arith

pub raise_step : (b c k j : ℕ) → j ≤ k → c ≡ b * 2 ^ (k - j) → c * 2 ≡ b * 2 ^ (k + 1 - j)
raise_step b c k j h e =
    ap (λ (z : ℕ). z * 2) e ∙ mul_assoc b (2 ^ (k - j)) 2
    ∙ ap (λ (z : ℕ). b * z) (sym (pow-add 2 (k - j) 1) ∙ ap (λ (z : ℕ). 2 ^ z) (next k j h))
  where
    next : (k j : ℕ) → j ≤ k → k - j + 1 ≡ k + 1 - j
    next k j h = omega arith

-- b was doubled n times to v, and then to c
pub raise_scaled : (b n v c k : ℕ) → v ≡ b * 2 ^ n → 150 + n ≤ k → c ≡ v * 2 ^ (k - (150 + n)) → c * 2 ^ 150 ≡ b * 2 ^ k
raise_scaled b n v c k e h f =
    ap (λ (z : ℕ). z * 2 ^ 150) (f ∙ ap (λ (z : ℕ). z * 2 ^ (k - (150 + n))) e ∙ mul_assoc b (2 ^ n) (2 ^ (k - (150 + n))))
    ∙ mul_assoc b (2 ^ n * 2 ^ (k - (150 + n))) (2 ^ 150)
    ∙ ap (λ (z : ℕ). b * z) (ap (λ (z : ℕ). z * 2 ^ 150) (sym (pow-add 2 n (k - (150 + n)))) ∙ sym (pow-add 2 (n + (k - (150 + n))) 150)
    ∙ ap (λ (z : ℕ). 2 ^ z) (whole n k h))
  where
    whole : (n k : ℕ) → 150 + n ≤ k → n + (k - (150 + n)) + 150 ≡ k
    whole n k h = omega arith

-- b is at most a, and twice it still fits
pub raise_fits : (a c p : ℕ) → c ≤ a → a * 4 < p → c * 2 * 2 < p
raise_fits a c p h k = omega arith

-- ---- the nearest whole number to q + a / (2 * b)
module _ (q a b : ℕ) (h : a < b * 2) where
  whole_part : (q * (b * 2) + a) / (b * 2) ≡ q
  whole_part = digits_div q h

  rest_part : (q * (b * 2) + a) % (b * 2) ≡ a
  rest_part = digits_mod q h

  pub rounds_down : a < b → q ≡ closest (q * (b * 2) + a) (b * 2)
  rounds_down l = sym (closest_below (q * (b * 2) + a) (b * 2) (subst (λ (z : ℕ). z * 2 < b * 2) (sym rest_part) (go a b l)) ∙ whole_part)
    where
      go : (a b : ℕ) → a < b → a * 2 < b * 2
      go a b h = omega arith

  pub rounds_up : b < a → q + 1 ≡ closest (q * (b * 2) + a) (b * 2)
  rounds_up l =
      sym (closest_above (q * (b * 2) + a) (b * 2) (subst (λ (z : ℕ). b * 2 < z * 2) (sym rest_part) (go b a l))
      ∙ ap (λ (z : ℕ). z + 1) whole_part)
    where
      go : (a b : ℕ) → a < b → a * 2 < b * 2
      go a b h = omega arith

  pub rounds_even : a ≡ b → q + q % 2 ≡ closest (q * (b * 2) + a) (b * 2)
  rounds_even e = sym (closest_tie (q * (b * 2) + a) (b * 2) (ap (λ (z : ℕ). z * 2) (rest_part ∙ e)) ∙ ap (λ (z : ℕ). z + z % 2) whole_part)

-- ---- what the digits say at the end
module _ (n d b q a k : ℕ) (D : 0 < d) (C : 0 < b) (h : a < b * 2) (s : Scaled n d (q * (b * 2) + a) (b * 2) k) where
  B : 0 < b * 2
  B = mul-pos C (pow_pos 1)

  long-bits : q < 2 ^ 24 → (k ≡ 0) ⊎ (2 ^ 23 ≤ q) → k ≤ 253
      → to_bits binary32 (round binary32 false n d) ≡ 0 + (k * 2 ^ 23 + closest (q * (b * 2) + a) (b * 2))
  long-bits u v w =
      bits_by false n d (q * (b * 2) + a) (b * 2) k D B s
      (subst (λ (z : ℕ). Kept k z) (sym (whole_part q a b h)) (u, v)) w

  long_inf : 2 ^ 23 ≤ q → 254 ≤ k → to_bits binary32 (round binary32 false n d) ≡ 2139095040
  long_inf v w = bits_inf false n d (q * (b * 2) + a) (b * 2) k D B s (subst (λ (z : ℕ). 2 ^ 23 ≤ z) (sym (whole_part q a b h)) v) w

  -- nothing is left of the division exactly if the f32 is the fraction
  pub long-nearest : q < 2 ^ 24 → (k ≡ 0) ⊎ (2 ^ 23 ≤ q) → k ≤ 253 → {r : Bits} → r.bits ≡ k * 2 ^ 23 + closest (q * (b * 2) + a) (b * 2)
      → r.rounded ≡ not (eqb a 0)
      → Nearest n d r
  unfolding bits
  long-nearest u v w e f =
      let kept : Kept k ((q * (b * 2) + a) / (b * 2)) = subst (λ (z : ℕ). Kept k z) (sym (whole_part q a b h)) (u, v) in
      record {
        bits = e ∙ sym (long-bits u v w ∙ zero-add (k * 2 ^ 23 + closest (q * (b * 2) + a) (b * 2)));
        rounded = λ t. f ∙ sym (rounded_by t n d (q * (b * 2) + a) (b * 2) k D B s kept w
            ∙ ap (λ (z : ℕ). not (eqb z 0)) (rest_part q a b h));
      }

  pub long_infinite : 2 ^ 23 ≤ q → 254 ≤ k → {r : Bits} → r.bits ≡ 2139095040 → r.rounded ≡ true → Nearest n d r
  unfolding bits
  long_infinite v w e f = record {
    bits = e ∙ sym (long_inf v w);
    rounded = λ t. f ∙ sym (ap (λ (x : Float). rounded x (fraction t n d))
        (inf_by t n d (q * (b * 2) + a) (b * 2) k D B s (subst (λ (z : ℕ). 2 ^ 23 ≤ z) (sym (whole_part q a b h)) v) w)
        ∙ inf_rounded t n d);
  }

-- b was doubled 150 times and is at most 2 * n
module _ (n d b : ℕ) (D : 0 < d) (C : 0 < b) (e : b * 2 ^ 150 ≡ d * 2 ^ 300) (h : b ≤ n * 2) where
  halve : b * 2 ^ 149 * 2 ≡ d * 2 ^ 299 * 2
  halve = mul_assoc b (2 ^ 149) 2 ∙ e ∙ sym (mul_assoc d (2 ^ 299) 2)

  cert : Scaled n d (n * 2 * 2 ^ 23) b 275
  cert =
      mul_assoc n (2 ^ 149) b
      ∙ ap (λ (z : ℕ). n * z) (mul_comm (2 ^ 149) b ∙ eq_of_mul-eq-mul_right 2 (pow_pos 1) (b * 2 ^ 149) (d * 2 ^ 299) halve)
      ∙ ap (λ (z : ℕ). n * z) (sym (mul_left_comm (2 ^ 24) d (2 ^ 275)))
      ∙ sym (mul_assoc n (2 ^ 24) (d * 2 ^ 275))
      ∙ ap (λ (z : ℕ). z * (d * 2 ^ 275)) (sym (mul_assoc n 2 (2 ^ 23)))

  large : 2 ^ 23 ≤ n * 2 * 2 ^ 23 / b
  large = (le-div_iff_mul-le C).1 (le_trans (mul-le-mul_left (2 ^ 23) h) (le_of_eq (mul_comm (2 ^ 23) (n * 2))))

  pub raised_infinite : {r : Bits} → r.bits ≡ 2139095040 → r.rounded ≡ true → Nearest n d r
  unfolding bits
  raised_infinite p q = record {
    bits = p ∙ sym (bits_inf false n d (n * 2 * 2 ^ 23) b 275 D C cert large (lit≤ tt));
    rounded = λ t. q ∙ sym (ap (λ (x : Float). rounded x (fraction t n d)) (inf_by t n d (n * 2 * 2 ^ 23) b 275 D C cert large (lit≤ tt))
        ∙ inf_rounded t n d);
  }

-- ---- the same, from where the digits begin
pub begin : (b n k x : ℕ) → n * 2 ^ k ≡ x → (0 * (b * 2) + n) * 2 ^ k ≡ x
begin b n k x e = ap (λ (z : ℕ). z * 2 ^ k) (ap (λ (z : ℕ). z + n) (zero-mul (b * 2)) ∙ zero-add n) ∙ e

pub go_on : (b q a k r a' x : ℕ) → 0 < k → a' + r * (b * 2) ≡ a * 2
    → (q * (b * 2) + a) * 2 ^ k ≡ x → ((q * 2 + r) * (b * 2) + a') * 2 ^ (k - 1) ≡ x
go_on b q a k r a' x K e h =
    ap (λ (z : ℕ). z * 2 ^ (k - 1))
    (ap (λ (z : ℕ). z + a') (add-mul (q * 2) r (b * 2) ∙ ap (λ (z : ℕ). z + r * (b * 2)) (mul_right_comm q 2 (b * 2)))
    ∙ go (q * (b * 2)) (r * (b * 2)) a' a e)
    ∙ mul_assoc (q * (b * 2) + a) 2 (2 ^ (k - 1))
    ∙ ap (λ (z : ℕ). (q * (b * 2) + a) * z) (sym (ap (λ (z : ℕ). 2 ^ z) (one_more k K) ∙ pow-add 2 1 (k - 1)))
    ∙ h
  where
    go : (x y z w : ℕ) → z + y ≡ w * 2 → x * 2 + y + z ≡ (x + w) * 2
    go x y z w e = omega arith

    one_more : (k : ℕ) → 0 < k → k ≡ 1 + (k - 1)
    one_more k h = omega arith

pub certify : (n d b x k j : ℕ) → b * 2 ^ 150 ≡ d * 2 ^ j → x * 2 ^ k ≡ n * 2 ^ j → Scaled n d x (b * 2) k
certify n d b x k j e h =
    mul_assoc n (2 ^ 149) (b * 2)
    ∙ ap (λ (z : ℕ). n * z) (mul_comm (2 ^ 149) (b * 2) ∙ mul_assoc b 2 (2 ^ 149) ∙ e)
    ∙ mul_left_comm n d (2 ^ j)
    ∙ ap (λ (z : ℕ). d * z) (sym h)
    ∙ mul_left_comm d x (2 ^ k)

pub pos_of : (b d j : ℕ) → 0 < d → b * 2 ^ 150 ≡ d * 2 ^ j → 0 < b
pos_of b d j D e = first_pos b (2 ^ 150) (subst (λ (z : ℕ). 0 < z) (sym e) (mul-pos D (pow_pos j)))

pub positive : (a b : ℕ) → a < b → 0 < b
positive a b h = omega arith

pub at_most : (q a b : ℕ) → a < b * 2 → q < 16777216 → closest (q * (b * 2) + a) (b * 2) ≤ 16777216
at_most q a b h l = closest_le (q * (b * 2) + a) (b * 2) 16777216 (subst (λ (z : ℕ). z < 16777216) (sym (whole_part q a b h)) l)
