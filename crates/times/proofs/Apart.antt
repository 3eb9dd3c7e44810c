-- Two fractions ±n / d and ±m / c, each of size at most 2 ^ k, and the f32s nearest to them: how far apart these are, by how far apart
-- those are.
use mathlib.Core.Path.{◌≡◌, sym, ap, ◌∙◌}
use mathlib.Core.Logic.{◌⊎◌, inl, inr, ⊎_elim}
use Prim.Native.Nat.{ℕ, ◌+◌, ◌-◌, ◌*◌, ◌/◌, ◌^◌, ◌≤◌, ◌<◌, zero-le}
use native.Mathlib.Nat.{le_of_lt, le-div_iff_mul-le, eq_of_mul-eq-mul_right, le_trans, le_of_eq, lt_of_lt_of_le}
use native.Mathlib.Nat.{lt_of_le_of_lt, mul_comm, mul_assoc, mul_right_comm, mul-le-mul_right, mul-lt-mul_of_pos_right}
use native.Mathlib.Nat.{add-mul, mul-pos, zero-mul, le_of_mul-le-mul_right, lt_of_mul-lt-mul_right}
use native.Mathlib.Omega.{arith}
use mathlib.Core.Bool.{Bool, true, false, not, cond, beq}
use lib.Dec.{T, lit<, ltb, ltb→lt, nltb→le}
use lib.Pow.{pow-add, pow_pos}
use lib.Ieee.{size, binary32, round}
use lib.Ieee.Exact.{HasValue}
use lib.Ieee.Digits.{back}
use lib.Ieee.Nearest.{closest, closest_same, div_same}
use lib.Ieee.Order.{drop}
use lib.Ieee.Scale.{grid}
use Rattle.number.specs.Exact.{gap}
use Rattle.number.specs.Time.{near}
use Rattle.number.proofs.Round.{size_gt}
use Rattle.number.proofs.Error.{Near, grid_exact, error, stored, finite}
use Rattle.number.proofs.Gap.{gap_scale, gap-near, near_far, near_close}

-- ---- arithmetic on plain numbers
near_mul : (x y e c : ℕ) → Near x y e → Near (x * c) (y * c) (e * c)
near_mul x y e c (p, q) = (
  le_trans (mul-le-mul_right c p) (le_of_eq (add-mul y e c)),
  le_trans (mul-le-mul_right c q) (le_of_eq (add-mul x e c)),
)

near-at : {x y e x' y' e' : ℕ} → x ≡ x' → y ≡ y' → e ≡ e' → Near x y e → Near x' y' e'
near-at {x} {y} {e} {x'} {y'} {e'} p q r h = (omega arith, omega arith)

-- a size of at most 2 ^ k, in units
in_units : (k n d : ℕ) → n ≤ 2 ^ k * d → n * 2 ^ 149 ≤ 2 ^ (k + 124 + 25) * d
in_units k n d h =
    le_trans (mul-le-mul_right (2 ^ 149) h)
    (le_of_eq (mul_right_comm (2 ^ k) d (2 ^ 149) ∙ ap (λ (z : ℕ). z * d) (sym (pow-add 2 k 149) ∙ ap (λ (z : ℕ). 2 ^ z) (go k))))
  where
    go : (k : ℕ) → k + 149 ≡ k + 124 + 25
    go k = omega arith

-- ---- the stored time is within 2 ^ (k - 25) of the written one
pub within : (k n d : ℕ) → 0 < d → n ≤ 2 ^ k * d → Near (grid binary32 n d * d) (n * 2 ^ 149) (2 ^ (k + 124) * d)
within k n d D h = error n d (k + 124) D (in_units k n d h)

pub held : (s : Bool) (k n d : ℕ) → 0 < d → k ≤ 34 → n ≤ 2 ^ k * d → HasValue (round binary32 s n d) s (grid binary32 n d) (2 ^ 149)
held s k n d D K h = stored s n d (finite n d (k + 124) D (go k K) (in_units k n d h))
  where
    go : (k : ℕ) → k ≤ 34 → k + 124 ≤ 250
    go k h = omega arith

dbl : (y : ℕ) → y + y ≡ y * 2
dbl y = omega arith

-- x + p times y is at most w, and w is within p * y of g * y: so x is at most g
left_over : (x p y g w : ℕ) → 0 < y → (x + p) * y ≤ w → w ≤ g * y + p * y → x ≤ g
left_over x p y g w Y h k = le_of_mul-le-mul_right (go (x * y) (p * y) (g * y) (le_trans (le_of_eq (sym (add-mul x p y))) (le_trans h k))) Y
  where
    go : (a b c : ℕ) → a + b ≤ c + b → a ≤ c
    go a b c h = omega arith

-- w is below x * y, and g * y is within p * y of w: so g is below x + p
less_than : (x p y g w : ℕ) → w < x * y → g * y ≤ w + p * y → g < x + p
less_than x p y g w h k = lt_of_mul-lt-mul_right y (lt_of_lt_of_le (go (g * y) w (x * y) (p * y) h k) (le_of_eq (sym (add-mul x p y))))
  where
    go : (a b c d : ℕ) → b < c → a ≤ b + d → a < c + d
    go a b c d h k = omega arith

scale_le : (x y z : ℕ) → x * y ≤ z * 2 ^ 24 → x * 2 ^ 125 * y ≤ z * 2 ^ 149
scale_le x y z h =
    le_trans (le_of_eq (mul_right_comm x (2 ^ 125) y)) (le_trans (mul-le-mul_right (2 ^ 125) h) (le_of_eq (mul_assoc z (2 ^ 24) (2 ^ 125))))

scale_lt : (y z : ℕ) → z * 2 ^ 24 < y → z * 2 ^ 149 < 2 ^ 125 * y
scale_lt y z h =
    lt_of_le_of_lt (le_of_eq (sym (mul_assoc z (2 ^ 24) (2 ^ 125))))
    (lt_of_lt_of_le (mul-lt-mul_of_pos_right h (pow_pos 125)) (le_of_eq (mul_comm y (2 ^ 125))))

-- ---- equal fractions have the same size in units
grid_same : (a b c d : ℕ) → 0 < b → 0 < d → a * d ≡ c * b → grid binary32 a b ≡ grid binary32 c d
grid_same a b c d B D e =
    let l = 2 ^ 149 in
    let x : a * l * d ≡ c * l * b = mul_right_comm a l d ∙ ap (λ (z : ℕ). z * l) e ∙ mul_right_comm c b l in
    let k : drop 24 (a * l) b ≡ drop 24 (c * l) d = ap (λ (z : ℕ). size z - 24) (div_same (a * l) b (c * l) d B D x) in
    let j = drop 24 (c * l) d in
    let y : a * l * (d * 2 ^ j) ≡ c * l * (b * 2 ^ j) = sym (mul_assoc (a * l) d (2 ^ j)) ∙ ap (λ (z : ℕ). z * 2 ^ j) x
    ∙ mul_assoc (c * l) b (2 ^ j)
    in
    ap (λ (z : ℕ). closest (a * l) (b * 2 ^ z) * 2 ^ z) k
    ∙ ap (λ (z : ℕ). z * 2 ^ j) (closest_same (a * l) (b * 2 ^ j) (c * l) (d * 2 ^ j) (mul-pos B (pow_pos j)) (mul-pos D (pow_pos j)) y)

grid_zero : (n d : ℕ) → 0 < d → n ≡ 0 → grid binary32 n d ≡ 0
grid_zero n d D e = ap (λ (z : ℕ). grid binary32 z d) e ∙ grid_exact 0 d 0 0 D (lit< tt) (sym (zero-mul d))

no_factor : (n c : ℕ) → 0 < c → n * c ≡ 0 → n ≡ 0
no_factor n c C e = eq_of_mul-eq-mul_right c C n 0 (e ∙ sym (zero-mul c))

none_apart : (a b : ℕ) → a ≡ b → a - b + (b - a) ≡ 0
none_apart a b e = omega arith

level : (a b : ℕ) → a - b + (b - a) ≡ 0 → a ≡ b
level a b e = omega arith

first-zero : (a b : ℕ) → a + b ≡ 0 → a ≡ 0
first-zero a b e = omega arith

second_zero : (a b : ℕ) → a + b ≡ 0 → b ≡ 0
second_zero a b e = omega arith

both_zero : (a b : ℕ) → a ≡ 0 → b ≡ 0 → a + b ≡ 0
both_zero a b e f = omega arith

still_level : (s t : Bool) (n d m c : ℕ) → 0 < d → 0 < c → gap s (n * c) t (m * d) ≡ 0 → gap s (grid binary32 n d) t (grid binary32 m c) ≡ 0
still_level s t n d m c D C = go (beq s t)
  where
    go : (w : Bool) → cond w (n * c - m * d + (m * d - n * c)) (n * c + m * d) ≡ 0
        → cond w (grid binary32 n d - grid binary32 m c + (grid binary32 m c - grid binary32 n d)) (grid binary32 n d + grid binary32 m c)
        ≡ 0
    go true e = none_apart (grid binary32 n d) (grid binary32 m c) (grid_same n d m c D C (level (n * c) (m * d) e))
    go false e =
        both_zero (grid binary32 n d) (grid binary32 m c) (grid_zero n d D (no_factor n c C (first-zero (n * c) (m * d) e)))
        (grid_zero m c C (no_factor m d D (second_zero (n * c) (m * d) e)))

-- ---- from a quarter on the size is a multiple of 2 ^ 124 units
coarse : (n d : ℕ) → 0 < d → d ≤ n * 4 → (p : ℕ) × (grid binary32 n d ≡ p * 2 ^ 124)
coarse n d D h =
    let v = n * 2 ^ 149 / d in
    let j = size v - 24 in
    let q = closest (n * 2 ^ 149) (d * 2 ^ j) in
    let big : 2 ^ 147 ≤ v = (le-div_iff_mul-le D).1
    (le_trans (le_of_eq (mul_comm (2 ^ 147) d)) (le_trans (mul-le-mul_right (2 ^ 147) h) (le_of_eq (mul_assoc n 4 (2 ^ 147)))))
    in
    let J : 124 ≤ j = many (size v) (size_gt v 147 big) in (
      q * 2 ^ (j - 124),
      ap (λ (z : ℕ). q * z) (ap (λ (z : ℕ). 2 ^ z) (sym (back j 124 J)) ∙ pow-add 2 (j - 124) 124)
          ∙ sym (mul_assoc q (2 ^ (j - 124)) (2 ^ 124)),
    )
  where
    many : (z : ℕ) → 147 < z → 124 ≤ z - 24
    many z h = omega arith

-- ---- one size is at most the other and the difference
gap-first : (s t : Bool) (a b : ℕ) → a ≤ b + gap s a t b
gap-first s t a b = go (beq s t)
  where
    go : (w : Bool) → a ≤ b + cond w (a - b + (b - a)) (a + b)
    go true = omega arith
    go false = omega arith

gap_second : (s t : Bool) (a b : ℕ) → b ≤ a + gap s a t b
gap_second s t a b = go (beq s t)
  where
    go : (w : Bool) → b ≤ a + cond w (a - b + (b - a)) (a + b)
    go true = omega arith
    go false = omega arith

-- y / d is below a quarter, x / c differs from it by less than 2 ^ -24: so it is at most a half. Multiplied out: q is y * c, p is x * d, e
-- is d * c.
half_of : (p q e w : ℕ) → q * 4 ≤ e → p ≤ q + w → w * 16777216 < e → p * 2 ≤ e
half_of p q e w a b h = omega arith

half_units : (n d : ℕ) → n * 2 ≤ d → n * 2 ^ 149 ≤ 2 ^ 148 * d
half_units n d h =
    le_trans (le_of_eq (sym (mul_assoc n 2 (2 ^ 148)))) (le_trans (mul-le-mul_right (2 ^ 148) h) (le_of_eq (mul_comm d (2 ^ 148))))

three : (p : ℕ) → p < 4 → p ≤ 3
three p h = omega arith

split : (a b : ℕ) → (a < b) ⊎ (b ≤ a)
split a b = go (ltb a b) (ltb→lt a b) (nltb→le a b)
  where
    go : (w : Bool) → (T w → a < b) → (T (not w) → b ≤ a) → (a < b) ⊎ (b ≤ a)
    go true h k = inl (h tt)
    go false h k = inr (k tt)

-- x / c is at most a half where y / d is below a quarter
half_by : (x c y d w : ℕ) → 0 < d → y * 4 < d → x * d ≤ y * c + w → w * 2 ^ 24 < d * c → x * 2 ≤ c
half_by x c y d w D u h l =
    le_of_mul-le-mul_right
    (le_trans (le_of_eq (mul_right_comm x 2 d))
    (le_trans (half_of (x * d) (y * c) (d * c) w (le_trans (le_of_eq (mul_right_comm y c 4)) (mul-le-mul_right c (le_of_lt u))) h l)
    (le_of_eq (mul_comm d c))))
    D

quarter : (n d : ℕ) → n * 4 < d → n * 2 ≤ d
quarter n d h = omega arith

-- ---- two of them
module _ (s t : Bool) (n d m c : ℕ) (D : 0 < d) (C : 0 < c) where
  -- the written times' difference, over d * c, and the stored ones', over 2 ^ 149
  abbrev pub apart : ℕ
  apart = gap s (n * c) t (m * d)

  abbrev pub kept_apart : ℕ
  kept_apart = gap s (grid binary32 n d) t (grid binary32 m c)

  pub both : (e : ℕ) → n * 2 ^ 149 ≤ 2 ^ (e + 25) * d → m * 2 ^ 149 ≤ 2 ^ (e + 25) * c
      → Near (kept_apart * (d * c)) (apart * 2 ^ 149) (2 ^ (e + 1) * (d * c))
  both e h k =
      let g = grid binary32 n d in
      let f = grid binary32 m c in
      let a : Near (g * (d * c)) (n * c * 2 ^ 149) (2 ^ e * (d * c)) = near-at (mul_assoc g d c) (mul_right_comm n (2 ^ 149) c)
      (mul_assoc (2 ^ e) d c) (near_mul (g * d) (n * 2 ^ 149) (2 ^ e * d) c (error n d e D h))
      in
      let b : Near (f * (d * c)) (m * d * 2 ^ 149) (2 ^ e * (d * c)) = near-at (mul_assoc f c d ∙ ap (λ (z : ℕ). f * z) (mul_comm c d))
      (mul_right_comm m (2 ^ 149) d) (mul_assoc (2 ^ e) c d ∙ ap (λ (z : ℕ). 2 ^ e * z) (mul_comm c d))
      (near_mul (f * c) (m * 2 ^ 149) (2 ^ e * c) d (error m c e C k))
      in
      near-at (gap_scale s t g f (d * c)) (gap_scale s t (n * c) (m * d) (2 ^ 149)) (twice e (d * c))
      (gap-near s t (g * (d * c)) (n * c * 2 ^ 149) (f * (d * c)) (m * d * 2 ^ 149) (2 ^ e * (d * c)) (2 ^ e * (d * c)) a b)
    where
      twice : (e x : ℕ) → 2 ^ e * x + 2 ^ e * x ≡ 2 ^ (e + 1) * x
      twice e x = dbl (2 ^ e * x) ∙ mul_right_comm (2 ^ e) x 2 ∙ ap (λ (z : ℕ). z * x) (sym (pow-add 2 e 1))

  -- written times that differ by 2 ^ -23 + 2 ^ (k - 24) or more are no duplicates
  pub separated : (k : ℕ) → k ≤ 34 → n ≤ 2 ^ k * d → m ≤ 2 ^ k * c → (2 + 2 ^ k) * (d * c) ≤ apart * 2 ^ 24
      → near (round binary32 s n d) (round binary32 t m c) ≡ false
  separated k K h j l =
      near_far
      (round binary32 s n d)
      (round binary32 t m c)
      s t
      (grid binary32 n d)
      (grid binary32 m c)
      (held s k n d D K h)
      (held t k m c C K j)
      (left_over (2 ^ 126) (2 ^ (k + 124 + 1)) (d * c) kept_apart (apart * 2 ^ 149) (mul-pos D C)
      (le_trans (le_of_eq (ap (λ (z : ℕ). z * (d * c)) (sum k))) (scale_le (2 + 2 ^ k) (d * c) apart l))
      (both (k + 124) (in_units k n d h) (in_units k m c j)).1)
    where
      step : (k : ℕ) → k + 124 + 1 ≡ k + 125
      step k = omega arith

      sum : (k : ℕ) → 2 ^ 126 + 2 ^ (k + 124 + 1) ≡ (2 + 2 ^ k) * 2 ^ 125
      sum k =
          sym (add-mul 2 (2 ^ k) (2 ^ 125) ∙ ap (λ (z : ℕ). 2 * 2 ^ 125 + z) (sym (pow-add 2 k 125) ∙ ap (λ (z : ℕ). 2 ^ z) (sym (step k))))

  -- equal written times are duplicates
  pub equal : (k : ℕ) → k ≤ 34 → n ≤ 2 ^ k * d → m ≤ 2 ^ k * c → apart ≡ 0 → near (round binary32 s n d) (round binary32 t m c) ≡ true
  equal k K h j e =
      near_close
      (round binary32 s n d)
      (round binary32 t m c)
      s t
      (grid binary32 n d)
      (grid binary32 m c)
      (held s k n d D K h)
      (held t k m c C K j)
      (le_trans (le_of_eq (still_level s t n d m c D C e)) zero-le)

  -- both from a quarter on
  large : n ≤ 1 * d → m ≤ 1 * c → d ≤ n * 4 → c ≤ m * 4 → apart * 2 ^ 24 < d * c → kept_apart ≤ 3 * 2 ^ 124
  large h j u v l =
      let p = coarse n d D u in
      let q = coarse m c C v in
      let e : kept_apart ≡ gap s p.0 t q.0 * 2 ^ 124 = ap (λ (z : ℕ). gap s z t (grid binary32 m c)) p.1
      ∙ ap (λ (z : ℕ). gap s (p.0 * 2 ^ 124) t z) q.1
      ∙ gap_scale s t p.0 q.0 (2 ^ 124)
      in
      let g : kept_apart < 2 ^ 125 + 2 ^ 125 = less_than (2 ^ 125) (2 ^ 125) (d * c) kept_apart (apart * 2 ^ 149) (scale_lt (d * c) apart l)
      (both 124 (in_units 0 n d h) (in_units 0 m c j)).0
      in
      le_trans (le_of_eq e)
      (mul-le-mul_right (2 ^ 124) (three (gap s p.0 t q.0) (lt_of_mul-lt-mul_right (2 ^ 124) (lt_of_le_of_lt (le_of_eq (sym e)) g))))

  -- both up to a half
  small : n * 2 ≤ d → m * 2 ≤ c → apart * 2 ^ 24 < d * c → kept_apart ≤ 3 * 2 ^ 124
  small h j l =
      le_of_lt (less_than (2 ^ 125) (2 ^ 124) (d * c) kept_apart (apart * 2 ^ 149) (scale_lt (d * c) apart l)
      (both 123 (half_units n d h) (half_units m c j)).0)

  -- written times up to 1 in size that differ by less than 2 ^ -24 are duplicates
  pub close : n ≤ 1 * d → m ≤ 1 * c → apart * 2 ^ 24 < d * c → near (round binary32 s n d) (round binary32 t m c) ≡ true
  close h j l =
      near_close
      (round binary32 s n d)
      (round binary32 t m c)
      s t
      (grid binary32 n d)
      (grid binary32 m c)
      (held s 0 n d D zero-le h)
      (held t 0 m c C zero-le j)
      (⊎_elim (λ (u : n * 4 < d). small (quarter n d u) (half_by m c n d apart D u (gap_second s t (n * c) (m * d)) l) l)
      (λ (u : d ≤ n * 4).
      ⊎_elim (λ (v : m * 4 < c). small
      (half_by n d m c apart C v (gap-first s t (n * c) (m * d)) (lt_of_lt_of_le l (le_of_eq (mul_comm d c)))) (quarter m c v) l)
      (λ (v : c ≤ m * 4). large h j u v l)
      (split (m * 4) c))
      (split (n * 4) d))
