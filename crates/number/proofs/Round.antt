-- What rounds to an f32, by a certificate: a whole number of doublings k, and a fraction a / b that is num / den scaled by 2 ^ (149 - k),
-- whose whole part has 24 binary digits, or fewer where k = 0.
-- Then the bits of the nearest f32 are k * 2 ^ 23 + the nearest whole number to a / b.
use mathlib.Core.Path.{◌≡◌, refl, sym, ap, ◌∙◌, subst}
use mathlib.Core.Logic.{◌⊎◌, inl, inr, ⊎_elim}
use Prim.Native.Nat.{ℕ, zero, suc, ◌+◌, ◌-◌, ◌*◌, ◌/◌, ◌%◌, ◌^◌, ◌≤◌, ◌<◌, compare}
use native.Mathlib.Nat.{le_trans, le_of_eq, lt_of_lt_of_le, lt_of_le_of_lt, lt_of_not-le, not-le_of_lt, zero-mul, mul-le-mul_right}
use native.Mathlib.Nat.{mul-pos, mul-le-mul, le-div_iff_mul-le, div-lt_iff_lt-mul, mul-div_cancel, div-div-eq-div-mul, eq-or-lt_of_le}
use native.Mathlib.Omega.{arith}
use mathlib.Core.Bool.{Bool, true, false, not, cond}
use lib.Dec.{T, ltb, ltb→lt, not_T, lit≤, lit<}
use lib.Pow.{pow-add, pow_pos, pow_mono, pow-lt, shl_lt}
use lib.Ieee.{Float, nan, inf, fin, binary32, down, size, odd, units, round, to_bits}
use lib.Ieee.Digits.{size-lt, size-le, size_reaches}
use lib.Ieee.Fits.{nearest-le, round_is, round-fits, down_pos}
use lib.Ieee.Bits.{to_bits-lt, cond_no}
use lib.Ieee.Exact.{HasValue, units_val}
use lib.Ieee.Scale.{round_same}
use lib.Ieee.Nearest.{closest, closest_same, nearest-ge, div_same}

-- ---- a number's digits, from both sides
pub size_gt : (n j : ℕ) → 2 ^ j ≤ n → j < size n
size_gt n j h = lt_of_not-le (λ (g : size n ≤ j). not-le_of_lt (lt_of_lt_of_le (size-lt n) (pow_mono g)) h)

drop_is : (z k : ℕ) → z ≤ 24 + k → (k ≡ 0) ⊎ (23 + k < z) → z - 24 ≡ k
drop_is z k h (inl e) = omega arith
drop_is z k h (inr l) = omega arith

-- ---- how many digits `round` and `to_bits` drop of v, by what is left
pub drop_of : (v k w : ℕ) → v / 2 ^ k ≡ w → w < 2 ^ 24 → (k ≡ 0) ⊎ (2 ^ 23 ≤ w) → size v - 24 ≡ k
drop_of v k w q hi lo =
    drop_is (size v) k
    (size-le v (24 + k)
    (subst (λ (x : ℕ). v < x) (sym (pow-add 2 24 k)) ((div-lt_iff_lt-mul (pow_pos k)).0 (subst (λ (x : ℕ). x < 2 ^ 24) (sym q) hi))))
    (⊎_elim inl
    (λ (h : 2 ^ 23 ≤ w). inr (size_gt v (23 + k)
    (le_trans (le_of_eq (pow-add 2 23 k)) ((le-div_iff_mul-le (pow_pos k)).0 (subst (λ (x : ℕ). 2 ^ 23 ≤ x) (sym q) h)))))
    lo)

pub drop-least : (v k w : ℕ) → v / 2 ^ k ≡ w → 2 ^ 23 ≤ w → k ≤ size v - 24
drop-least v k w q h =
    go (size v)
    (size_gt v (23 + k) (le_trans (le_of_eq (pow-add 2 23 k)) ((le-div_iff_mul-le (pow_pos k)).0 (subst (λ (x : ℕ). 2 ^ 23 ≤ x) (sym q) h))))
  where
    go : (z : ℕ) → 23 + k < z → k ≤ z - 24
    go z h = omega arith

-- ---- `round` by the certificate
-- a / b is num / den scaled by 2 ^ (149 - k)
abbrev pub Scaled : (num den a b k : ℕ) → Type 0
Scaled num den a b k = num * 2 ^ 149 * b ≡ a * (den * 2 ^ k)

-- its whole part has 24 binary digits, or fewer where k = 0
abbrev pub Kept : (k w : ℕ) → Type 0
Kept k w = (w < 2 ^ 24) × ((k ≡ 0) ⊎ (2 ^ 23 ≤ w))

-- in units of 2 ^ -149 the fraction's whole part, with k digits cut off, is that of a / b
whole_by : (num den a b k : ℕ) → 0 < den → 0 < b → Scaled num den a b k → num * 2 ^ 149 / den / 2 ^ k ≡ a / b
whole_by num den a b k D B e =
    div-div-eq-div-mul (num * 2 ^ 149) den (2 ^ k) ∙ div_same (num * 2 ^ 149) (den * 2 ^ k) a b (mul-pos D (pow_pos k)) B e

pub round_by : (s : Bool) (num den a b k : ℕ) → 0 < den → 0 < b → Scaled num den a b k
    → Kept k (a / b)
    → round binary32 s num den ≡ units binary32 s (closest a b) k
round_by s num den a b k D B e h =
    let n = num * 2 ^ 149 in
    round_is binary32 s num den
    ∙ ap (λ (z : ℕ). units binary32 s (closest n (den * 2 ^ z)) z)
    (drop_of (n / den) k (a / b) (whole_by num den a b k D B e) h.0 h.1)
    ∙ ap (λ (z : ℕ). units binary32 s z k) (closest_same n (den * 2 ^ k) a b (mul-pos D (pow_pos k)) B e)

-- ---- the bits of q * 2 ^ k units
-- of a finite value: by the value alone
pub to_bits-value : (x : Float) (s : Bool) (a : ℕ) → HasValue x s a (2 ^ 149)
    → to_bits binary32 x ≡ cond s (2 ^ 31) 0 + (size a - 24) * 2 ^ 23 + a / 2 ^ (size a - 24)
unfolding to_bits
to_bits-value nan s a v = absurd v
to_bits-value (inf t) s a v = absurd v
to_bits-value (fin t m e) s a v =
    ap (λ (n : ℕ). cond t (2 ^ 31) 0 + (size n - 24) * 2 ^ 23 + n / 2 ^ (size n - 24))
    (ap (λ (x : ℕ). x / down e) v.1 ∙ mul-div_cancel a (down_pos e))
    ∙ ap (λ (b : Bool). cond b (2 ^ 31) 0 + (size a - 24) * 2 ^ 23 + a / 2 ^ (size a - 24)) v.0

join : (t k q x : ℕ) → x ≡ k * 2 ^ 23 + q → t + k * 2 ^ 23 + q ≡ t + x
join t k q x e = omega arith

value-bits : (x : Float) (s : Bool) (a k q : ℕ) → HasValue x s a (2 ^ 149)
    → a / 2 ^ k ≡ q → Kept k q
    → to_bits binary32 x ≡ cond s (2 ^ 31) 0 + (k * 2 ^ 23 + q)
value-bits x s a k q v e h =
    to_bits-value x s a v
    ∙ ap (λ (z : ℕ). cond s (2 ^ 31) 0 + z * 2 ^ 23 + a / 2 ^ z) (drop_of a k q e h.0 h.1)
    ∙ ap (λ (z : ℕ). cond s (2 ^ 31) 0 + k * 2 ^ 23 + z) e
    ∙ join (cond s (2 ^ 31) 0) k q (k * 2 ^ 23 + q) refl

pub under : (q k : ℕ) → q < 2 ^ 24 → k ≤ 253 → q * 2 ^ k < 2 ^ 277
under q k a b = lt_of_lt_of_le (shl_lt 24 k a) (pow_mono (go k b))
  where
    go : (k : ℕ) → k ≤ 253 → 24 + k ≤ 277
    go k h = omega arith

past_largest : (s : Bool) → to_bits binary32 (units binary32 s (2 ^ 24) 253) ≡ cond s (2 ^ 31) 0 + (253 * 2 ^ 23 + 2 ^ 24)
unfolding to_bits units
past_largest true = refl
past_largest false = refl

-- the top of a binade is the bottom of the next
carried : (s : Bool) (k : ℕ) → k ≤ 253 → to_bits binary32 (units binary32 s (2 ^ 24) k) ≡ cond s (2 ^ 31) 0 + (k * 2 ^ 23 + 2 ^ 24)
carried s k h =
    ⊎_elim (λ (e : k ≡ 253). subst (λ (z : ℕ). to_bits binary32 (units binary32 s (2 ^ 24) z) ≡ cond s (2 ^ 31) 0 + (z * 2 ^ 23 + 2 ^ 24))
    (sym e) (past_largest s))
    more (eq-or-lt_of_le h)
  where
    fit : (k : ℕ) → k < 253 → 24 + k < 277
    fit k l = omega arith

    twice : (t k : ℕ) → t + ((k + 1) * 2 ^ 23 + 2 ^ 23) ≡ t + (k * 2 ^ 23 + 2 ^ 24)
    twice t k = omega arith

    more : k < 253 → to_bits binary32 (units binary32 s (2 ^ 24) k) ≡ cond s (2 ^ 31) 0 + (k * 2 ^ 23 + 2 ^ 24)
    more l =
        value-bits (units binary32 s (2 ^ 24) k) s (2 ^ 24 * 2 ^ k) (k + 1) (2 ^ 23)
        (units_val binary32 s (2 ^ 24) k (lt_of_le_of_lt (le_of_eq (sym (pow-add 2 24 k))) (pow-lt (fit k l))))
        (ap (λ (z : ℕ). z / 2 ^ (k + 1)) (sym (pow-add 2 24 k) ∙ ap (λ (z : ℕ). 2 ^ z) (shift k) ∙ pow-add 2 23 (k + 1))
        ∙ mul-div_cancel (2 ^ 23) (pow_pos (k + 1)))
        (lit< tt, inr (lit≤ tt))
        ∙ twice (cond s (2 ^ 31) 0) k
      where
        shift : (k : ℕ) → 24 + k ≡ 23 + (k + 1)
        shift k = omega arith

pub units_bits : (s : Bool) (q k : ℕ) → q ≤ 2 ^ 24 → k ≤ 253 → (k ≡ 0) ⊎ (2 ^ 23 ≤ q)
    → to_bits binary32 (units binary32 s q k) ≡ cond s (2 ^ 31) 0 + (k * 2 ^ 23 + q)
units_bits s q k h kh lo =
    ⊎_elim (λ (e : q ≡ 2 ^ 24). subst (λ (z : ℕ). to_bits binary32 (units binary32 s z k) ≡ cond s (2 ^ 31) 0 + (k * 2 ^ 23 + z)) (sym e)
    (carried s k kh))
    (λ (l : q < 2 ^ 24). value-bits (units binary32 s q k) s (q * 2 ^ k) k q (units_val binary32 s q k (under q k l kh))
    (mul-div_cancel q (pow_pos k)) (l, lo))
    (eq-or-lt_of_le h)

-- ---- the bits of the nearest f32
pub bits_by : (s : Bool) (num den a b k : ℕ) → 0 < den → 0 < b → Scaled num den a b k → Kept k (a / b) → k ≤ 253
    → to_bits binary32 (round binary32 s num den) ≡ cond s (2 ^ 31) 0 + (k * 2 ^ 23 + closest a b)
bits_by s num den a b k D B e h kh =
    ap (to_bits binary32) (round_by s num den a b k D B e h)
    ∙ units_bits s (closest a b) k (le_trans (nearest-le (a / b) (compare (a % b * 2) b)) h.0) kh
    (⊎_elim inl (λ (l : 2 ^ 23 ≤ a / b). inr (le_trans l (nearest-ge (a / b) (compare (a % b * 2) b)))) h.1)

-- ---- beyond the largest finite value
huge : (s : Bool) (q k : ℕ) → 254 ≤ k → 2 ^ 23 ≤ q → units binary32 s q k ≡ inf s
unfolding units
huge s q k h l =
    cond_no (ltb (q * 2 ^ k) (2 ^ 277)) _ (inf s)
    (nltb (q * 2 ^ k) (2 ^ 277) (le_trans (mul-le-mul (lit≤ {m = 2 ^ 23} {n = 2 ^ 23} tt) (pow_mono h)) (mul-le-mul_right (2 ^ k) l)))
  where
    nltb : (m n : ℕ) → n ≤ m → T (not (ltb m n))
    nltb m n h = not_T (ltb m n) (λ t. not-le_of_lt (ltb→lt m n t) h)

at_inf : (s : Bool) → to_bits binary32 (inf s) ≡ cond s (2 ^ 31) 0 + 255 * 2 ^ 23
unfolding to_bits
at_inf s = refl

pub inf_by : (s : Bool) (num den a b k : ℕ) → 0 < den → 0 < b → Scaled num den a b k
    → 2 ^ 23 ≤ a / b → 254 ≤ k → round binary32 s num den ≡ inf s
inf_by s num den a b k D B e h kh =
    let n = num * 2 ^ 149 in
    let j = size (n / den) - 24 in
    let least : k ≤ j = drop-least (n / den) k (a / b) (whole_by num den a b k D B e) h in
    round_is binary32 s num den ∙ huge s (closest n (den * 2 ^ j)) j (le_trans kh least) (kept_ge n den (le_trans kh least))
  where
    last : (z : ℕ) → 254 ≤ z - 24 → 23 + (z - 24) < z
    last z h = omega arith

    kept_ge : (n den : ℕ) → 254 ≤ size (n / den) - 24 → 2 ^ 23 ≤ closest n (den * 2 ^ (size (n / den) - 24))
    kept_ge n den h =
        let j = size (n / den) - 24 in
        let u = den * 2 ^ j in
        let w : 2 ^ 23 * 2 ^ j ≤ n / den = le_trans (le_of_eq (sym (pow-add 2 23 j)))
        (size_reaches (n / den) (23 + j) (last (size (n / den)) h))
        in
        le_trans (subst (λ (x : ℕ). 2 ^ 23 ≤ x) (div-div-eq-div-mul n den (2 ^ j)) ((le-div_iff_mul-le (pow_pos j)).1 w))
        (nearest-ge (n / u) (compare (n % u * 2) u))

pub bits_inf : (s : Bool) (num den a b k : ℕ) → 0 < den → 0 < b → Scaled num den a b k → 2 ^ 23 ≤ a / b → 254 ≤ k
    → to_bits binary32 (round binary32 s num den) ≡ cond s (2 ^ 31) 0 + 255 * 2 ^ 23
bits_inf s num den a b k D B e h kh = ap (to_bits binary32) (inf_by s num den a b k D B e h kh) ∙ at_inf s

-- ---- the sign's bit
sign_odd : (d q k l : ℕ) → to_bits binary32 (odd d true q k l) ≡ 2 ^ 31 + to_bits binary32 (odd d false q k l)
unfolding odd to_bits
sign_odd d zero k l = refl
sign_odd d (suc q) k l = plain _ _
  where
    plain : (x y : ℕ) → 2 ^ 31 + x + y ≡ 2 ^ 31 + (0 + x + y)
    plain x y = omega arith

sign_units : (q k : ℕ) → to_bits binary32 (units binary32 true q k) ≡ 2 ^ 31 + to_bits binary32 (units binary32 false q k)
unfolding units
sign_units q k = go (ltb (q * 2 ^ k) (2 ^ 277))
  where
    go : (b : Bool)
        → to_bits binary32 (cond b (odd 25 true q k 149) (inf true)) ≡ 2 ^ 31 + to_bits binary32 (cond b (odd 25 false q k 149) (inf false))
    go true = sign_odd 25 q k 149
    go false = unfold to_bits in refl

pub sign_bit : (a c : ℕ) → to_bits binary32 (round binary32 true a c) ≡ 2 ^ 31 + to_bits binary32 (round binary32 false a c)
sign_bit a c =
    let k = size (a * 2 ^ 149 / c) - 24 in
    let q = closest (a * 2 ^ 149) (c * 2 ^ k) in
    ap (to_bits binary32) (round_is binary32 true a c) ∙ sign_units q k
    ∙ ap (λ (x : Float). 2 ^ 31 + to_bits binary32 x) (sym (round_is binary32 false a c))

-- so without it the bits leave room for it
pub bits_room : (a c : ℕ) → to_bits binary32 (round binary32 false a c) < 2147483648
bits_room a c =
    go (to_bits binary32 (round binary32 false a c)) (to_bits binary32 (round binary32 true a c)) (sign_bit a c)
    (to_bits-lt binary32 (round binary32 true a c) (round-fits binary32 true a c))
  where
    go : (x y : ℕ) → y ≡ 2147483648 + x → y < 4294967296 → x < 2147483648
    go x y e h = omega arith

-- 0 / d
pub zero_bits : (d : ℕ) → 0 < d → to_bits binary32 (round binary32 false 0 d) ≡ 0
unfolding round to_bits
zero_bits d D = ap (to_bits binary32) (round_same binary32 false 0 d 0 1 D (lit< tt) (sym (zero-mul d))) ∙ refl
