-- When the nearest f32 to a fraction is one f32 or a larger: past the middle between that f32 and the next smaller one, or at it where the
-- tie goes up.
use Prim.Native.Nat.{ℕ, zero, suc, zero-le, ◌+◌, ◌-◌, ◌*◌, ◌/◌, ◌%◌, ◌^◌, ◌≤◌, ◌<◌}
use Prim.Native.Nat.{suc-le-suc, compare, Ordering}
use mathlib.Core.Bool.{false}
use mathlib.Core.Logic.{◌⊎◌, inl, inr, ⊎_elim, ◌↔◌}
use mathlib.Core.Path.{◌≡◌, refl, sym, ap, ◌∙◌, subst}
use native.Mathlib.Nat.{one-mul, add-sub_of_le, sub-add_cancel, mod-eq_of_lt, mul-le-mul, mul_right_comm, mul_left_comm}
use native.Mathlib.Nat.{le_of_suc-le-suc, le_of_mul-le-mul_right, lt_of_mul-lt-mul_right, mul-lt-mul_of_pos_right, div-lt_iff_lt-mul}
use native.Mathlib.Nat.{le_trans, le_of_eq, le_of_lt, lt_of_lt_of_le, lt_of_le_of_lt, eq-or-lt_of_le, zero-add}
use native.Mathlib.Nat.{mul-one, mul_comm, mul_assoc, mul-pos, mul-le-mul_right, div-add-mod', mod-lt, mod-one, div-one}
use native.Mathlib.Nat.{le_refl, add-zero, add-mul, suc-mul, zero-mul, mul-le-mul_left, lt_irrefl, not-le_of_lt}
use native.Mathlib.Omega.{arith}
use lib.Dec.{lit<, lit≤}
use lib.Pow.{pow-add, pow_pos, pow_mono, shl_lt}
use lib.Ieee.{round, to_bits}
use lib.Ieee.Nearest.{closest}
use Rattle.number.specs.Number.{bits}
use Rattle.number.proofs.Closest.{Cmp, cmp, closest_below, closest_tie, closest_above}
use Rattle.number.proofs.Round.{Scaled, Kept, bits_by}
use Rattle.digits.specs.Means.{bits_of, lowest, highest, doublings, digits_of, Fair, Halfway, Placed, Spaced, FirstAt}
use Rattle.digits.specs.declared.Middle.{Middle}
use Rattle.digits.proofs.LeastLaws.{either}
use Rattle.digits.proofs.OrderLaws.{bits_mono}

by_certificate : (n d a b k : ℕ) → 0 < d → 0 < b → Scaled n d a b k → Kept k (a / b) → k ≤ 253 → bits_of n d ≡ k * 2 ^ 23 + closest a b
unfolding bits_of bits
by_certificate n d a b k D B e h K = bits_by false n d a b k D B e h K ∙ zero-add (k * 2 ^ 23 + closest a b)

-- ---- q * 2 ^ k times 2 ^ -149

whole_closest : (q : ℕ) → closest q 1 ≡ q
whole_closest q = closest_below q 1 (subst (λ (x : ℕ). x * 2 < 1) (sym (mod-one q)) (lit< tt)) ∙ div-one q

exact_bits : (q k : ℕ) → q < 2 ^ 24 → (k ≡ 0) ⊎ (2 ^ 23 ≤ q) → k ≤ 253 → bits_of (q * 2 ^ k) (2 ^ 149) ≡ k * 2 ^ 23 + q
exact_bits q k h l K =
    by_certificate (q * 2 ^ k) (2 ^ 149) q 1 k (pow_pos 149) (lit< tt)
    (mul-one (q * 2 ^ k * 2 ^ 149) ∙ mul_assoc q (2 ^ k) (2 ^ 149) ∙ ap (λ (x : ℕ). q * x) (mul_comm (2 ^ k) (2 ^ 149)))
    (subst (λ (x : ℕ). Kept k x) (sym (div-one q)) (h, l)) K
    ∙ ap (λ (x : ℕ). k * 2 ^ 23 + x) (whole_closest q)

-- the first number past all finite ones
infinity-bits : bits_of (2 ^ 24 * 2 ^ 253) (2 ^ 149) ≡ 253 * 2 ^ 23 + 2 ^ 24
unfolding bits_of bits round to_bits
infinity-bits = refl

-- also where q is 2 ^ 24
pub unit_bits : (q k : ℕ) → q ≤ 2 ^ 24 → (k ≡ 0) ⊎ (2 ^ 23 ≤ q) → k ≤ 253 → bits_of (q * 2 ^ k) (2 ^ 149) ≡ k * 2 ^ 23 + q
unit_bits q k h l K =
    ⊎_elim (λ (e : q ≡ 2 ^ 24). ⊎_elim (λ (z : k ≡ 253). last z e) (λ (z : k < 253). top z e) (eq-or-lt_of_le K))
    (λ (g : q < 2 ^ 24). exact_bits q k g l K) (eq-or-lt_of_le h)
  where
    high : (k : ℕ) → k < 253 → k + 1 ≤ 253
    high k h = omega arith

    shift : (k : ℕ) → 24 + k ≡ 23 + (k + 1)
    shift k = omega arith

    twice : (k : ℕ) → (k + 1) * 2 ^ 23 + 2 ^ 23 ≡ k * 2 ^ 23 + 2 ^ 24
    twice k = omega arith

    last : k ≡ 253 → q ≡ 2 ^ 24 → bits_of (q * 2 ^ k) (2 ^ 149) ≡ k * 2 ^ 23 + q
    last z e = ap (λ (x : ℕ). bits_of (q * 2 ^ x) (2 ^ 149)) z ∙ ap (λ (x : ℕ). bits_of (x * 2 ^ 253) (2 ^ 149)) e ∙ infinity-bits
        ∙ sym (ap (λ (x : ℕ). x * 2 ^ 23 + q) z ∙ ap (λ (x : ℕ). 253 * 2 ^ 23 + x) e)

    top : k < 253 → q ≡ 2 ^ 24 → bits_of (q * 2 ^ k) (2 ^ 149) ≡ k * 2 ^ 23 + q
    top z e =
        ap (λ (x : ℕ). bits_of x (2 ^ 149))
        (ap (λ (x : ℕ). x * 2 ^ k) e ∙ sym (pow-add 2 24 k) ∙ ap (λ (x : ℕ). 2 ^ x) (shift k) ∙ pow-add 2 23 (k + 1))
        ∙ exact_bits (2 ^ 23) (k + 1) (lit< tt) (inr (lit≤ tt)) (high k z)
        ∙ twice k ∙ ap (λ (x : ℕ). k * 2 ^ 23 + x) (sym e)

-- ---- a fraction a / b of units: its whole part q and rest r beside w and a half

module _ {a b q r w : ℕ} (e : q * b + r ≡ a) (l : r < b) where
  lower : q < w → (t : ℕ) → t ≤ 1 → (2 * w + 1) * b < 2 * a + t → ⊥
  lower h t u x = let m = mul-le-mul_right b h in omega arith

  before : q < w → a ≤ w * b
  before h = let m = mul-le-mul_right b h in omega arith

  higher : w < q → (t : ℕ) → (2 * w + 1) * b < 2 * a + t
  higher h t = let m = mul-le-mul_right b h in omega arith

  after : w < q → (w + 1) * b ≤ a
  after h = let m = mul-le-mul_right b h in omega arith

  under_half : q ≡ w → r * 2 < b → (t : ℕ) → t ≤ 1 → (2 * w + 1) * b < 2 * a + t → ⊥
  under_half h g t u x = let m = ap (λ (z : ℕ). z * b) h in omega arith

  at_half : q ≡ w → r * 2 ≡ b → (2 * w + 1) * b ≡ 2 * a
  at_half h g = let m = ap (λ (z : ℕ). z * b) h in omega arith

  past_half : q ≡ w → b < r * 2 → (t : ℕ) → (2 * w + 1) * b < 2 * a + t
  past_half h g t = let m = ap (λ (z : ℕ). z * b) h in omega arith

parity : (w : ℕ) → w % 2 ≤ 1
parity w = omega arith

-- the f32 with the bits k * 2 ^ 23 + w + 1, against n / d
module _ (k w n d : ℕ) (h : w < 2 ^ 24) (l : (k ≡ 0) ⊎ (2 ^ 23 ≤ w)) (K : k ≤ 253) (D : 0 < d) where
  abbrev a : ℕ
  a = n * 2 ^ 149

  abbrev b : ℕ
  b = d * 2 ^ k

  b_pos : 0 < b
  b_pos = mul-pos D (pow_pos k)

  split : a / b * b + a % b ≡ a
  split = div-add-mod' a b

  rest : a % b < b
  rest = mod-lt a b_pos

  -- below w units
  bits-before : a / b < w → bits_of n d ≤ k * 2 ^ 23 + w
  bits-before g =
      le_trans (bits_mono n d (w * 2 ^ k) (2 ^ 149) D (pow_pos 149)
      (le_trans (before split rest g) (le_of_eq (ap (λ (x : ℕ). w * x) (mul_comm d (2 ^ k)) ∙ sym (mul_assoc w (2 ^ k) d)))))
      (le_of_eq (unit_bits w k (le_of_lt h) l K))

  -- from w + 1 units on
  bits-after : w < a / b → k * 2 ^ 23 + (w + 1) ≤ bits_of n d
  bits-after g =
      le_trans (le_of_eq (sym (unit_bits (w + 1) k (up w h) (⊎_elim inl (λ (x : 2 ^ 23 ≤ w). inr (up' w x)) l) K)))
      (bits_mono ((w + 1) * 2 ^ k) (2 ^ 149) n d (pow_pos 149) D
      (le_trans (le_of_eq (mul_assoc (w + 1) (2 ^ k) d ∙ ap (λ (x : ℕ). (w + 1) * x) (mul_comm (2 ^ k) d))) (after split rest g)))
    where
      up : (w : ℕ) → w < 2 ^ 24 → w + 1 ≤ 2 ^ 24
      up w h = omega arith

      up' : (w : ℕ) → 2 ^ 23 ≤ w → 2 ^ 23 ≤ w + 1
      up' w h = omega arith

  -- between the two
  bits_between : a / b ≡ w → bits_of n d ≡ k * 2 ^ 23 + closest a b
  bits_between e = by_certificate n d a b k D b_pos refl (subst (λ (x : ℕ). Kept k x) (sym e) (h, l)) K

  abbrev Past : Type 0
  Past = (2 * w + 1) * b < 2 * a + w % 2

  abbrev Reaches : Type 0
  Reaches = k * 2 ^ 23 + (w + 1) ≤ bits_of n d

  pub reaches : Past ↔ Reaches
  reaches = go (compare (a / b) w) (cmp (a / b) w)
    where
      no : (x y : ℕ) → x ≤ y + w → y + (w + 1) ≤ x → ⊥
      no x y p q = omega arith

      level : (x y c : ℕ) → x ≡ y + c → c ≡ w → y + (w + 1) ≤ x → ⊥
      level x y c p q r = omega arith

      tie_up : (x y : ℕ) → x ≡ y + (w + w % 2) → (u v : ℕ) → u ≡ v → u < v + w % 2 → y + (w + 1) ≤ x
      tie_up x y p u v q r = omega arith

      tie_back : (x y : ℕ) → x ≡ y + (w + w % 2) → (u v : ℕ) → u ≡ v → y + (w + 1) ≤ x → u < v + w % 2
      tie_back x y p u v q r = omega arith

      half : a / b ≡ w → (o : Ordering) → Cmp o (a % b * 2) b → Past ↔ Reaches
      half e Ordering.lt g = (
        λ x. absurd (under_half split rest e g (w % 2) (parity w) x),
        λ x. absurd (level (bits_of n d) (k * 2 ^ 23) (closest a b) (bits_between e) (closest_below a b g ∙ e) x),
      )
      half e Ordering.eq g =
          let c = bits_between e ∙ ap (λ (x : ℕ). k * 2 ^ 23 + x) (closest_tie a b g ∙ ap (λ (x : ℕ). x + x % 2) e) in
          let f = at_half split rest e g in
          (λ x. tie_up (bits_of n d) (k * 2 ^ 23) c _ _ f x, λ x. tie_back (bits_of n d) (k * 2 ^ 23) c _ _ f x)
      half e Ordering.gt g =
          let c = bits_between e ∙ ap (λ (x : ℕ). k * 2 ^ 23 + x) (closest_above a b g ∙ ap (λ (x : ℕ). x + 1) e) in
          (λ x. le_of_eq (sym c), λ x. past_half split rest e g (w % 2))

      go : (o : Ordering) → Cmp o (a / b) w → Past ↔ Reaches
      go Ordering.lt g = (
        λ x. absurd (lower split rest g (w % 2) (parity w) x),
        λ x. absurd (no (bits_of n d) (k * 2 ^ 23) (bits-before g) x),
      )
      go Ordering.eq g = half g (compare (a % b * 2) b) (cmp (a % b * 2) b)
      go Ordering.gt g = (λ x. bits-after g, λ x. higher split rest g (w % 2))

-- ---- the middle as num / 2 ^ shift

-- u and v are in the order of x and y, where u is to x as v is to y
module _ (u v x y p q : ℕ) (e : u * p ≡ x * q) (f : v * p ≡ y * q) (P : 0 < p) (Q : 0 < q) where
  as_small : x ≤ y → u ≤ v
  as_small h = le_of_mul-le-mul_right (le_trans (le_of_eq e) (le_trans (mul-le-mul_right q h) (le_of_eq (sym f)))) P

  as_less : x < y → u < v
  as_less h = lt_of_mul-lt-mul_right p (lt_of_le_of_lt (le_of_eq e) (lt_of_lt_of_le (mul-lt-mul_of_pos_right h Q) (le_of_eq (sym f))))

  in_order : (t : ℕ) → t ≤ 1 → x < y + t → u < v + t
  in_order t h l = ⊎_elim (λ (z : t ≡ 0). none t z l) (λ (z : t ≡ 1). one t z l) (zero_or_one t h)
    where
      zero_or_one : (t : ℕ) → t ≤ 1 → (t ≡ 0) ⊎ (t ≡ 1)
      zero_or_one t h = ⊎_elim inr (λ (g : t < 1). inl (zero t g)) (eq-or-lt_of_le h)
        where
          zero : (t : ℕ) → t < 1 → t ≡ 0
          zero t h = omega arith

      none : (t : ℕ) → t ≡ 0 → x < y + t → u < v + t
      none t z l = let g = as_less (omega arith) in omega arith

      one : (t : ℕ) → t ≡ 1 → x < y + t → u < v + t
      one t z l = let g = as_small (omega arith) in omega arith

module _ (k w num shift : ℕ) (h : w < 2 ^ 24) (l : (k ≡ 0) ⊎ (2 ^ 23 ≤ w)) (K : k ≤ 253)
    (e : num * 2 ^ 150 ≡ (2 * w + 1) * 2 ^ k * 2 ^ shift) where
  left : (d : ℕ) → num * d * 2 ^ 150 ≡ (2 * w + 1) * (d * 2 ^ k) * 2 ^ shift
  left d =
      mul_right_comm num d (2 ^ 150) ∙ ap (λ (x : ℕ). x * d) e ∙ mul_right_comm ((2 * w + 1) * 2 ^ k) (2 ^ shift) d
      ∙ ap (λ (x : ℕ). x * 2 ^ shift) (mul_assoc (2 * w + 1) (2 ^ k) d ∙ ap (λ (x : ℕ). (2 * w + 1) * x) (mul_comm (2 ^ k) d))

  right : (n : ℕ) → n * 2 ^ shift * 2 ^ 150 ≡ 2 * (n * 2 ^ 149) * 2 ^ shift
  right n =
      mul_right_comm n (2 ^ shift) (2 ^ 150)
      ∙ ap (λ (x : ℕ). x * 2 ^ shift) (ap (λ (x : ℕ). n * x) (pow-add 2 1 149) ∙ mul_left_comm n 2 (2 ^ 149))

  pub reach_forth : (n d : ℕ) → 0 < d → k * 2 ^ 23 + (w + 1) ≤ bits_of n d → num * d < n * 2 ^ shift + w % 2
  reach_forth n d D g =
      in_order _ _ _ _ _ _ (left d) (right n) (pow_pos 150) (pow_pos shift) (w % 2) (parity w) ((reaches k w n d h l K D).1 g)

  pub reach_back : (n d : ℕ) → 0 < d → num * d < n * 2 ^ shift + w % 2 → k * 2 ^ 23 + (w + 1) ≤ bits_of n d
  reach_back n d D g =
      (reaches k w n d h l K D).0
      (in_order _ _ _ _ _ _ (sym (left d)) (sym (right n)) (pow_pos shift) (pow_pos 150) (w % 2) (parity w) g)

-- ---- the first n past it: s is 2 ^ shift, z is num * d
pub first_past : (z s t n : ℕ) → 0 < s → t ≤ 1 → (z < n * s + t) ↔ ((z + s - t) / s ≤ n)
first_past z s t n S T = (
  λ h. le_of_suc-le-suc ((div-lt_iff_lt-mul {k = s} {x = z + s - t} {y = suc n} S).1 (forth h)),
  λ h. back ((div-lt_iff_lt-mul {k = s} {x = z + s - t} {y = suc n} S).0 (suc-le-suc h)),
)
  where
    forth : z < n * s + t → z + s - t < suc n * s
    forth h = omega arith

    back : z + s - t < suc n * s → z < n * s + t
    back h = omega arith

-- ---- as the code has it

-- the digits of the f32 with the bits b have 24 binary places, or fewer with no doubling
pub digits_high : (b : ℕ) → digits_of b < 2 ^ 24
digits_high b = omega arith

pub digits_low : (b : ℕ) → (doublings b ≡ 0) ⊎ (2 ^ 23 ≤ digits_of b)
digits_low b = ⊎_elim (λ (h : b < 8388608). inl (none h)) (λ (h : 8388608 ≤ b). inr (full h)) (go (compare b 8388608) (cmp b 8388608))
  where
    none : b < 8388608 → doublings b ≡ 0
    none h = omega arith

    full : 8388608 ≤ b → 2 ^ 23 ≤ digits_of b
    full h = omega arith

    go : (o : Ordering) → Cmp o b 8388608 → (b < 8388608) ⊎ (8388608 ≤ b)
    go Ordering.lt h = inl h
    go Ordering.eq h = inr (le_of_eq (sym h))
    go Ordering.gt h = inr (le_of_lt h)

pub digits_sum : (b : ℕ) → doublings b * 2 ^ 23 + digits_of b ≡ b
digits_sum b = omega arith

module _ (bits : ℕ) (lo : 0 < bits) (hi : bits ≤ highest + 1) where
  abbrev k : ℕ
  k = doublings (bits - 1)

  abbrev w : ℕ
  w = digits_of (bits - 1)

  few_doublings : k ≤ 253
  few_doublings = omega arith

  halfway : (num shift : ℕ) → num * 2 ^ 150 ≡ (2 * w + 1) * 2 ^ k * 2 ^ shift
      → Halfway bits (record { num = num; shift = shift; tie = w % 2 })
  halfway num shift e =
      let s = digits_sum (bits - 1) in
      let is : bits ≡ k * 2 ^ 23 + (w + 1) = omega arith in
      let h = digits_high (bits - 1) in
      let l = digits_low (bits - 1) in
      record {
        forth = λ n d D g. reach_forth k w num shift h l few_doublings e n d D (le_trans (le_of_eq (sym is)) g);
        back = λ n d D g. le_trans (le_of_eq is) (reach_back k w num shift h l few_doublings e n d D g);
      }

  twice : w * 2 + 1 ≡ 2 * w + 1
  twice = omega arith

  low-is : k < 150 → (w * 2 + 1) * 2 ^ 150 ≡ (2 * w + 1) * 2 ^ k * 2 ^ (150 - k)
  low-is g =
      ap (λ (x : ℕ). x * 2 ^ 150) twice
      ∙ ap (λ (x : ℕ). (2 * w + 1) * x) (ap (λ (x : ℕ). 2 ^ x) (sym (add-sub_of_le (le_of_lt g))) ∙ pow-add 2 k (150 - k))
      ∙ sym (mul_assoc (2 * w + 1) (2 ^ k) (2 ^ (150 - k)))

  pub middle_low : k < 150
      → let m : Middle = record { num = w * 2 + 1; shift = 150 - k; tie = w % 2 } in Halfway bits m × Placed bits m
  middle_low g = (
    halfway (w * 2 + 1) (150 - k) (low-is g),
    record {
      tie = parity w;
      num = high (digits_high (bits - 1));
      small = λ h. higher (digits_high (bits - 1));
      shift = room k;
      fair = λ h. omega arith;
      is = low-is g;
      reach = le_of_eq (sym (add-sub_of_le (le_of_lt g)));
      tight = le_refl (150 - k);
    },
  )
    where
      high : w < 2 ^ 24 → w * 2 + 1 < 2 ^ 34
      high h = omega arith

      higher : w < 2 ^ 24 → w * 2 + 1 < 2 ^ 25
      higher h = omega arith

      room : (k : ℕ) → 150 - k ≤ 150
      room k = omega arith

  -- nothing is lost
  small_shift : 150 ≤ k → (w * 2 + 1) * 2 ^ (k - 150) < 2 ^ 34
  small_shift g =
      lt_of_lt_of_le (shl_lt {a = w * 2 + 1} 25 (k - 150) (higher (digits_high (bits - 1))))
      (pow_mono {i = 25 + (k - 150)} {j = 34} (omega arith))
    where
      higher : w < 2 ^ 24 → w * 2 + 1 < 2 ^ 25
      higher h = omega arith

  high_is : 150 ≤ k → (w * 2 + 1) * 2 ^ (k - 150) * 2 ^ 150 ≡ (2 * w + 1) * 2 ^ k * 2 ^ 0
  high_is g =
      mul_assoc (w * 2 + 1) (2 ^ (k - 150)) (2 ^ 150) ∙ ap (λ (x : ℕ). x * (2 ^ (k - 150) * 2 ^ 150)) twice
      ∙ ap (λ (x : ℕ). (2 * w + 1) * x) (sym (pow-add 2 (k - 150) 150) ∙ ap (λ (x : ℕ). 2 ^ x) (sub-add_cancel g))
      ∙ sym (mul-one ((2 * w + 1) * 2 ^ k))

  pub middle_high : 150 ≤ k
      → let m : Middle = record { num = ((w * 2 + 1) * 2 ^ (k - 150)) % 2 ^ 64; shift = 0; tie = w % 2 } in Halfway bits m × Placed bits m
  middle_high g =
      subst (λ (x : ℕ). let m : Middle = record { num = x; shift = 0; tie = w % 2 } in Halfway bits m × Placed bits m)
      (sym (mod-eq_of_lt (lt_of_lt_of_le (small_shift g) (lit≤ tt)))) (
        halfway ((w * 2 + 1) * 2 ^ (k - 150)) 0 (high_is g),
        record {
          tie = parity w;
          num = small_shift g;
          small = λ h. absurd (omega arith);
          shift = lit≤ tt;
          fair = λ h. lit≤ tt;
          is = high_is g;
          reach = le_trans g (le_of_eq (sym (add-zero k)));
          tight = zero-le;
        },
      )

-- ---- two neighbours

module _ {b : ℕ} {low high : Middle} (B : 0 < b) (x : Placed b low) (y : Placed (b + 1) high) where
  -- in units of the lower one's digits, its middle is 2 w + 1 halves, and the upper one's 2 w + 3 or more
  further : (2 * digits_of (b - 1) + 3) * 2 ^ doublings (b - 1) ≤ (2 * digits_of b + 1) * 2 ^ doublings b
  further = ⊎_elim same next (eq-or-lt_of_le (step b B))
    where
      step : (b : ℕ) → 0 < b → doublings (b - 1) ≤ doublings b
      step b h = omega arith

      same : doublings (b - 1) ≡ doublings b → (2 * digits_of (b - 1) + 3) * 2 ^ doublings (b - 1) ≤ (2 * digits_of b + 1) * 2 ^ doublings b
      same e =
          le_of_eq (ap (λ (z : ℕ). z * 2 ^ doublings (b - 1)) (go b B e) ∙ ap (λ (z : ℕ). (2 * digits_of b + 1) * 2 ^ z) e)
        where
          go : (b : ℕ) → 0 < b → doublings (b - 1) ≡ doublings b → 2 * digits_of (b - 1) + 3 ≡ 2 * digits_of b + 1
          go b h e = omega arith

      next : doublings (b - 1) < doublings b → (2 * digits_of (b - 1) + 3) * 2 ^ doublings (b - 1) ≤ (2 * digits_of b + 1) * 2 ^ doublings b
      next l =
          le_trans (mul-le-mul_right (2 ^ doublings (b - 1)) (go b B l))
          (le_of_eq (mul_assoc (2 * digits_of b + 1) 2 (2 ^ doublings (b - 1))
          ∙ ap (λ (z : ℕ). (2 * digits_of b + 1) * z) (sym (pow-add 2 1 (doublings (b - 1))) ∙ ap (λ (z : ℕ). 2 ^ z) (one b B l))))
        where
          go : (b : ℕ) → 0 < b → doublings (b - 1) < doublings b → 2 * digits_of (b - 1) + 3 ≤ (2 * digits_of b + 1) * 2
          go b h l = omega arith

          one : (b : ℕ) → 0 < b → doublings (b - 1) < doublings b → 1 + doublings (b - 1) ≡ doublings b
          one b h l = omega arith

  pub spaced : Spaced low high
  spaced = record { apart = le_of_mul-le-mul_right (le_trans (le_of_eq lower) (le_trans more (le_of_eq (sym upper)))) (pow_pos 150) }
    where
      s : ℕ
      s = 2 ^ low.shift

      t : ℕ
      t = 2 ^ high.shift

      k : ℕ
      k = 2 ^ doublings (b - 1)

      w : ℕ
      w = digits_of (b - 1)

      lower : (low.num + 2) * t * 2 ^ 150 ≡ ((2 * w + 1) * k * s + 2 * 2 ^ 150) * t
      lower =
          mul_right_comm (low.num + 2) t (2 ^ 150)
          ∙ ap (λ (z : ℕ). z * t) (add-mul low.num 2 (2 ^ 150) ∙ ap (λ (z : ℕ). z + 2 * 2 ^ 150) x.is)

      same_bits : digits_of (b + 1 - 1) ≡ digits_of b
      same_bits = ap digits_of (go b)
        where
          go : (b : ℕ) → b + 1 - 1 ≡ b
          go b = omega arith

      same_power : doublings (b + 1 - 1) ≡ doublings b
      same_power = ap doublings (go b)
        where
          go : (b : ℕ) → b + 1 - 1 ≡ b
          go b = omega arith

      upper : high.num * s * 2 ^ 150 ≡ (2 * digits_of b + 1) * 2 ^ doublings b * t * s
      upper =
          mul_right_comm high.num s (2 ^ 150) ∙ ap (λ (z : ℕ). z * s) y.is
          ∙ ap (λ (z : ℕ). (2 * z + 1) * 2 ^ doublings (b + 1 - 1) * t * s) same_bits
          ∙ ap (λ (z : ℕ). (2 * digits_of b + 1) * 2 ^ z * t * s) same_power

      units : 2 ^ 150 ≤ k * s
      units = le_trans (pow_mono x.reach) (le_of_eq (pow-add 2 (doublings (b - 1)) low.shift))

      sum : (2 * w + 1) * k * s + 2 * 2 ^ 150 ≤ (2 * w + 3) * k * s
      sum =
          le_trans (plain ((2 * w + 1) * k * s) (2 * 2 ^ 150) (2 * (k * s)) (double (2 ^ 150) (k * s) units))
          (le_of_eq (ap (λ (z : ℕ). (2 * w + 1) * k * s + z) (sym (mul_assoc 2 k s)) ∙ sym (add-mul ((2 * w + 1) * k) (2 * k) s)
          ∙ ap (λ (z : ℕ). z * s) (sym (add-mul (2 * w + 1) 2 k) ∙ ap (λ (z : ℕ). z * k) (three w))))
        where
          plain : (a b c : ℕ) → b ≤ c → a + b ≤ a + c
          plain a b c h = omega arith

          double : (a b : ℕ) → a ≤ b → 2 * a ≤ 2 * b
          double a b h = omega arith

          three : (w : ℕ) → 2 * w + 1 + 2 ≡ 2 * w + 3
          three w = omega arith

      more : ((2 * w + 1) * k * s + 2 * 2 ^ 150) * t ≤ (2 * digits_of b + 1) * 2 ^ doublings b * t * s
      more =
          le_trans (mul-le-mul_right t (le_trans sum (mul-le-mul_right s further)))
          (le_of_eq (mul_right_comm ((2 * digits_of b + 1) * 2 ^ doublings b) s t))

-- ---- where no number over d lies between the two middles, d is small

module _ {b d n m : ℕ} {low high : Middle} (D : 0 < d) (x : Halfway b low) (y : Halfway (b + 1) high) (q : Spaced low high)
    (T : high.tie ≤ 1) (f : FirstAt b d n) (g : FirstAt (b + 1) d m) where
  abbrev s : ℕ
  s = 2 ^ low.shift

  abbrev t : ℕ
  t = 2 ^ high.shift

  -- the number before n is not past the lower middle
  near : (n : ℕ) → FirstAt b d n → n * s ≤ low.num * d + s
  near zero f = le_trans (le_of_eq (zero-mul s)) zero-le
  near (suc n) f =
      ⊎_elim (λ (h : low.num * d < n * s + low.tie). absurd (lt_irrefl n (f.first n (x.back n d D h))))
      (λ (h : n * s + low.tie ≤ low.num * d). under n h)
      (less (low.num * d) (n * s + low.tie))
    where
      less : (a b : ℕ) → (a < b) ⊎ (b ≤ a)
      less a b = ⊎_elim inr inl (either b a)

      under : (n : ℕ) → n * s + low.tie ≤ low.num * d → suc n * s ≤ low.num * d + s
      under n h = le_trans (le_of_eq (suc-mul n s)) (plain (n * s) low.tie (low.num * d) s h)
        where
          plain : (a t b s : ℕ) → a + t ≤ b → a + s ≤ b + s
          plain a t b s h = omega arith

  pub none_between : m ≤ n → 2 * d ≤ 2 ^ low.shift
  none_between h = ⊎_elim (λ (l : 2 * d ≤ s). l) (λ (l : s < 2 * d). absurd (clash l)) (either (2 * d) s)
    where
      passed : high.num * d ≤ n * t
      passed = plain (high.num * d) (n * t) high.tie T (y.forth n d D (g.reached n h))
        where
          plain : (a b c : ℕ) → c ≤ 1 → a < b + c → a ≤ b
          plain a b c h l = omega arith

      clash : s < 2 * d → ⊥
      clash l =
          not-le_of_lt
          (lt_of_le_of_lt (mul-le-mul_right t (near n f))
          (lt_of_lt_of_le (mul-lt-mul_of_pos_right (add (low.num * d) s (2 * d) l) (pow_pos high.shift))
          (le_trans (le_of_eq regroup) (mul-le-mul_right d q.apart))))
          (le_trans (le_of_eq (mul_right_comm high.num s d)) (le_trans (mul-le-mul_right s passed) (le_of_eq (mul_right_comm n t s))))
        where
          add : (a b c : ℕ) → b < c → a + b < a + c
          add a b c h = omega arith

          regroup : (low.num * d + 2 * d) * t ≡ (low.num + 2) * t * d
          regroup = ap (λ (z : ℕ). z * t) (sym (add-mul low.num 2 d)) ∙ mul_right_comm (low.num + 2) d t

-- ---- and where d is small, the first number is
pub first_small : {b d n : ℕ} {low : Middle} → 0 < d → Halfway b low → d ≤ 5 * 2 ^ low.shift → FirstAt b d n → n ≤ 5 * low.num + 1
first_small {b} {d} {n} {low} D x h f =
    f.first (5 * low.num + 1)
    (x.back (5 * low.num + 1) d D
    (plain (low.num * d) _ low.tie
    (lt_of_le_of_lt (mul-le-mul_left low.num h)
    (lt_of_lt_of_le (more (low.num * (5 * 2 ^ low.shift)) (2 ^ low.shift) (pow_pos low.shift))
    (le_of_eq same)))))
  where
    more : (a b : ℕ) → 0 < b → a < a + b
    more a b h = omega arith

    plain : (a b t : ℕ) → a < b → a < b + t
    plain a b t h = omega arith

    same : low.num * (5 * 2 ^ low.shift) + 2 ^ low.shift ≡ (5 * low.num + 1) * 2 ^ low.shift
    same =
        ap (λ (z : ℕ). z + 2 ^ low.shift)
        (sym (mul_assoc low.num 5 (2 ^ low.shift)) ∙ ap (λ (z : ℕ). z * 2 ^ low.shift) (mul_comm low.num 5))
        ∙ ap (λ (z : ℕ). 5 * low.num * 2 ^ low.shift + z) (sym (one-mul (2 ^ low.shift)))
        ∙ sym (add-mul (5 * low.num) 1 (2 ^ low.shift))

-- the first number past a middle, over d: what is added and taken away stays below 2 ^ 64
pub record Room (m : Middle) (d : ℕ) : Type 0 where
  pub product : m.num * d ≤ 2 ^ 34 * 10 ^ 9
  pub shifted : (1 * 2 ^ m.shift) % 2 ^ 64 ≡ 2 ^ m.shift
  pub low : 0 < 2 ^ m.shift
  pub high : 2 ^ m.shift ≤ 2 ^ 54

pub room : {m : Middle} {d : ℕ} → Fair m → d ≤ 10 ^ 9 → Room m d
room {m} f h = record {
  product = mul-le-mul (le_of_lt f.num) h;
  shifted = ap (λ (x : ℕ). x % 2 ^ 64) (one-mul (2 ^ m.shift)) ∙ mod-eq_of_lt (lt_of_le_of_lt (pow_mono f.shift) (lit< tt));
  low = pow_pos m.shift;
  high = pow_mono f.shift;
}

pub fair_of : {b : ℕ} {m : Middle} → lowest ≤ b → Placed b m → Fair m
fair_of h p = record { num = p.num; shift = p.fair h; tie = p.tie }

pub past_first : {m : Middle} {d : ℕ} → Fair m → 0 < d → d ≤ 10 ^ 9 → (b : ℕ) → Halfway b m
    → FirstAt b d ((m.num * d + (1 * 2 ^ m.shift) % 2 ^ 64 - m.tie) / 2 ^ m.shift)
past_first {m} {d} f D h b x =
    subst (λ (z : ℕ). FirstAt b d ((m.num * d + z - m.tie) / 2 ^ m.shift)) (sym (room {d = d} f h).shifted) (record {
      reached = λ n g. x.back n d D ((first_past (m.num * d) (2 ^ m.shift) m.tie n (pow_pos m.shift) f.tie).1 g);
      first = λ n g. (first_past (m.num * d) (2 ^ m.shift) m.tie n (pow_pos m.shift) f.tie).0 (x.forth n d D g);
    })
