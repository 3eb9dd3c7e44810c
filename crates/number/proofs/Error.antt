-- How far the nearest f32 is from its fraction. `grid num den` is its size in units of 2 ^ -149, a whole number.
use mathlib.Core.Path.{◌≡◌, sym, ap, ◌∙◌, subst}
use mathlib.Core.Logic.{⊎_elim}
use Prim.Native.Nat.{ℕ, zero, suc, ◌+◌, ◌-◌, ◌*◌, ◌/◌, ◌%◌, ◌^◌, ◌≤◌, ◌<◌, compare, Ordering}
use native.Mathlib.Numerals.{add-one}
use native.Mathlib.Nat.{mod-lt, one-mul, suc-mul, add-zero, le_trans, le_of_eq, le_of_lt, lt_of_le_of_lt}
use native.Mathlib.Nat.{mul_comm, mul_assoc, add-mul, mul-le-mul_left, le_of_mul-le-mul_right, mul-pos}
use native.Mathlib.Nat.{div-lt_iff_lt-mul, mul-div_cancel, mul-mod_left, div-add-mod', eq-or-lt_of_le}
use native.Mathlib.Omega.{arith}
use mathlib.Core.Bool.{Bool}
use lib.Dec.{lit<}
use lib.Pow.{pow-add, pow_pos, pow_mono, pow-lt, shl_lt}
use lib.Ieee.{Float, binary32, size, round, nearest}
use lib.Ieee.Digits.{size-le, back}
use lib.Ieee.Fits.{round_is}
use lib.Ieee.Exact.{HasValue, units_val}
use lib.Ieee.Nearest.{closest}
use lib.Ieee.Order.{drop, kept}
use lib.Ieee.Scale.{grid}
use Rattle.number.proofs.Closest.{Cmp, cmp, closest_below}

-- ---- the nearest whole number to a / b, times b, is within b / 2 of a
abbrev Half : (y a b : ℕ) → Type 0
Half y a b = (y * 2 ≤ a * 2 + b) × (a * 2 ≤ y * 2 + b)

half_down : (x r a b : ℕ) → x + r ≡ a → r * 2 ≤ b → Half x a b
half_down x r a b e h = (omega arith, omega arith)

half_up : (x r a b : ℕ) → x + r ≡ a → b ≤ r * 2 → r ≤ b → Half (x + b) a b
half_up x r a b e h l = (omega arith, omega arith)

next : (w b : ℕ) → suc w * b ≡ w * b + b
next w b = suc-mul w b

half_tie : (w r a b t : ℕ) → w * b + r ≡ a → r * 2 ≡ b → t < 2 → Half ((w + t) * b) a b
half_tie w r a b zero e h l = subst (λ (y : ℕ). Half (y * b) a b) (sym (add-zero w)) (half_down (w * b) r a b e (le_of_eq h))
half_tie w r a b (suc zero) e h l =
    subst (λ (y : ℕ). Half y a b) (sym (ap (λ (z : ℕ). z * b) (add-one w) ∙ next w b))
    (half_up (w * b) r a b e (le_of_eq (sym h)) (omega arith))
half_tie w r a b (suc (suc t)) e h l = absurd (no t l)
  where
    no : (t : ℕ) → suc (suc t) < 2 → ⊥
    no t l = omega arith

pub closest_half : (a b : ℕ) → 0 < b → Half (closest a b * b) a b
closest_half a b B = go (a / b) (a % b) (compare (a % b * 2) b) (div-add-mod' a b) (mod-lt a B) (cmp (a % b * 2) b)
  where
    two : (w : ℕ) → w % 2 < 2
    two w = omega arith

    go : (w r : ℕ) (o : Ordering) → w * b + r ≡ a → r < b → Cmp o (r * 2) b → Half (nearest w o * b) a b
    go w r Ordering.lt e l h = half_down (w * b) r a b e (le_of_lt h)
    go w r Ordering.eq e l h = half_tie w r a b (w % 2) e h (two w)
    go w r Ordering.gt e l h = subst (λ (y : ℕ). Half y a b) (sym (next w b)) (half_up (w * b) r a b e (le_of_lt h) (le_of_lt l))

-- ---- the size of the nearest f32, in units
abbrev pub Near : (x y e : ℕ) → Type 0
Near x y e = (x ≤ y + e) × (y ≤ x + e)

-- at a fraction that is m * 2 ^ i units, m of 24 digits at most, nothing is lost
pub grid_exact : (num den m i : ℕ) → 0 < den → m < 2 ^ 24 → num * 2 ^ 149 ≡ m * 2 ^ i * den → grid binary32 num den ≡ m * 2 ^ i
grid_exact num den m i D M e =
    let n = num * 2 ^ 149 in
    let q : n / den ≡ m * 2 ^ i = ap (λ (x : ℕ). x / den) e ∙ mul-div_cancel (m * 2 ^ i) D in
    let j = drop 24 n den in
    let J : j ≤ i = spare (size (n / den)) i (size-le (n / den) (24 + i) (subst (λ (x : ℕ). x < 2 ^ (24 + i)) (sym q) (shl_lt 24 i M))) in
    let r = m * 2 ^ (i - j) in
    let e3 : r * 2 ^ j ≡ m * 2 ^ i = mul_assoc m (2 ^ (i - j)) (2 ^ j)
    ∙ ap (λ (x : ℕ). m * x) (sym (pow-add 2 (i - j) j) ∙ ap (λ (x : ℕ). 2 ^ x) (back i j J))
    in
    let u = den * 2 ^ j in
    let U : 0 < u = mul-pos D (pow_pos j) in
    let e2 : n ≡ r * u = e ∙ ap (λ (x : ℕ). x * den) (sym e3) ∙ mul_assoc r (2 ^ j) den ∙ ap (λ (x : ℕ). r * x) (mul_comm (2 ^ j) den) in
    ap (λ (x : ℕ). x * 2 ^ j) (ap (λ (x : ℕ). closest x u) e2 ∙ whole r u U) ∙ e3
  where
    spare : (z l : ℕ) → z ≤ 24 + l → z - 24 ≤ l
    spare z l h = omega arith

    whole : (r u : ℕ) → 0 < u → closest (r * u) u ≡ r
    whole r u U = closest_below (r * u) u (subst (λ (x : ℕ). x * 2 < u) (sym (mul-mod_left r u)) U) ∙ mul-div_cancel r U

-- At a fraction up to 2 ^ (e + 25) units the error is at most 2 ^ e units, multiplied out by den.
halve : (g n h e : ℕ) → h ≤ e * 2 → Half g n h → Near g n e
halve g n h e l (a, b) = (omega arith, omega arith)

none : (x y e : ℕ) → x ≡ y → Near x y e
none x y e h = (omega arith, omega arith)

pub error : (num den e : ℕ) → 0 < den → num * 2 ^ 149 ≤ 2 ^ (e + 25) * den
    → Near (grid binary32 num den * den) (num * 2 ^ 149) (2 ^ e * den)
error num den e D h = ⊎_elim at_top below (eq-or-lt_of_le h)
  where
    at_top : num * 2 ^ 149 ≡ 2 ^ (e + 25) * den → Near (grid binary32 num den * den) (num * 2 ^ 149) (2 ^ e * den)
    at_top q =
        let s : grid binary32 num den * den ≡ num * 2 ^ 149 = ap (λ (x : ℕ). x * den)
        (grid_exact num den 1 (e + 25) D (lit< tt) (q ∙ ap (λ (x : ℕ). x * den) (sym (one-mul (2 ^ (e + 25))))) ∙ one-mul (2 ^ (e + 25)))
        ∙ sym q
        in
        none (grid binary32 num den * den) (num * 2 ^ 149) (2 ^ e * den) s

    below : num * 2 ^ 149 < 2 ^ (e + 25) * den → Near (grid binary32 num den * den) (num * 2 ^ 149) (2 ^ e * den)
    below l =
        let m = num * 2 ^ 149 in
        let j = drop 24 m den in
        let J : j ≤ e + 1 = fewer (size (m / den)) e (size-le (m / den) (e + 25) ((div-lt_iff_lt-mul D).1 l)) in
        let u = den * 2 ^ j in
        let q = closest m u in
        let c : q * 2 ^ j * den ≡ q * u = mul_assoc q (2 ^ j) den ∙ ap (λ (x : ℕ). q * x) (mul_comm (2 ^ j) den) in
        subst (λ (x : ℕ). Near x m (2 ^ e * den)) (sym c)
        (halve (q * u) m u (2 ^ e * den)
        (le_trans (mul-le-mul_left den (pow_mono J))
        (le_of_eq (ap (λ (x : ℕ). den * x) (pow-add 2 e 1) ∙ sym (mul_assoc den (2 ^ e) 2) ∙ ap (λ (x : ℕ). x * 2) (mul_comm den (2 ^ e)))))
        (closest_half m u (mul-pos D (pow_pos j))))
      where
        fewer : (z e : ℕ) → z ≤ e + 25 → z - 24 ≤ e + 1
        fewer z e h = omega arith

-- ---- the nearest f32 has that size, and the sign that it was given
pub stored : (s : Bool) (num den : ℕ) → grid binary32 num den < 2 ^ 277
    → HasValue (round binary32 s num den) s (grid binary32 num den) (2 ^ 149)
stored s num den h =
    subst (λ (x : Float). HasValue x s (grid binary32 num den) (2 ^ 149)) (sym (round_is binary32 s num den))
    (units_val binary32 s (kept 24 (num * 2 ^ 149) den) (drop 24 (num * 2 ^ 149) den) h)

-- below 2 ^ 276 units nothing overflows
pub finite : (num den e : ℕ) → 0 < den → e ≤ 250 → num * 2 ^ 149 ≤ 2 ^ (e + 25) * den → grid binary32 num den < 2 ^ 277
finite num den e D E h =
    let g = grid binary32 num den in
    let a = (error num den e D h).0 in
    let b : g * den ≤ (2 ^ (e + 25) + 2 ^ e) * den = le_trans a
    (le_trans (grow (num * 2 ^ 149) (2 ^ (e + 25) * den) (2 ^ e * den) h) (le_of_eq (sym (add-mul (2 ^ (e + 25)) (2 ^ e) den))))
    in
    lt_of_le_of_lt (le_of_mul-le-mul_right b D) (room (2 ^ (e + 25)) (2 ^ e) (2 ^ 276) (pow_mono (fit e E)) (pow-lt (fit2 e E)))
  where
    grow : (x y z : ℕ) → x ≤ y → x + z ≤ y + z
    grow x y z h = omega arith

    room : (x y z : ℕ) → x ≤ z → y < z → x + y < z * 2
    room x y z a b = omega arith

    fit : (e : ℕ) → e ≤ 250 → e + 25 ≤ 276
    fit e h = omega arith

    fit2 : (e : ℕ) → e ≤ 250 → e < 276
    fit2 e h = omega arith
