-- The bits of the nearest f32 rise with the fraction.
use Prim.Native.Nat.{ℕ, ◌+◌, ◌-◌, ◌*◌, ◌/◌, ◌^◌, ◌≤◌, ◌<◌, zero-le}
use mathlib.Core.Bool.{Bool, true, false, cond, true≢false}
use mathlib.Core.Logic.{⊎_elim}
use mathlib.Core.Path.{◌≡◌, refl, sym, ap, ◌∙◌, subst}
use native.Mathlib.Nat.{le_trans, le_of_eq, le_of_lt, lt_of_le_of_lt, eq-or-lt_of_le, zero-add, le_of_mul-le-mul_right, le-div_iff_mul-le}
use native.Mathlib.Omega.{arith}
use lib.Dec.{T, ltb, ltb→lt}
use lib.Pow.{pow-add, pow_pos, shr_mono}
use lib.Ieee.{Float, nan, inf, fin, binary32, up, down, size, odd, units, round, to_bits, le}
use lib.Ieee.Digits.{size-lt, size-le, size_reaches}
use lib.Ieee.Fits.{round_is, down_pos, kept-lt}
use lib.Ieee.Exact.{HasValue, odd_sign}
use lib.Ieee.Nearest.{closest}
use lib.Ieee.Order.{round_mono, transfer}
use Rattle.number.specs.Number.{bits}
use Rattle.number.proofs.Round.{to_bits-value}
use Rattle.number.proofs.Gap.{or_le}
use Rattle.digits.specs.Means.{bits_of}

-- ---- the bits of v times 2 ^ -149

abbrev pub pack : ℕ → ℕ
pack v = (size v - 24) * 2 ^ 23 + v / 2 ^ (size v - 24)

size_mono : (u v : ℕ) → u ≤ v → size u ≤ size v
size_mono u v h = size-le u (size v) (lt_of_le_of_lt h (size-lt v))

-- the digits that are kept are 24, where any are dropped
kept_ge : (v : ℕ) → 0 < size v - 24 → 2 ^ 23 ≤ v / 2 ^ (size v - 24)
kept_ge v h =
    let k = size v - 24 in
    (le-div_iff_mul-le (pow_pos k)).1 (le_trans (le_of_eq (sym (pow-add 2 23 k))) (size_reaches v (23 + k) (in_use (size v) h)))
  where
    in_use : (z : ℕ) → 0 < z - 24 → 23 + (z - 24) < z
    in_use z h = omega arith

pub pack_mono : (u v : ℕ) → u ≤ v → pack u ≤ pack v
pack_mono u v h = ⊎_elim same fewer (eq-or-lt_of_le (less (size u) (size v) (size_mono u v h)))
  where
    less : (x y : ℕ) → x ≤ y → x - 24 ≤ y - 24
    less x y h = omega arith

    same : size u - 24 ≡ size v - 24 → pack u ≤ pack v
    same e =
        subst (λ (k : ℕ). pack u ≤ k * 2 ^ 23 + v / 2 ^ k) e (join ((size u - 24) * 2 ^ 23) _ _ (shr_mono (size u - 24) h))
      where
        join : (x y z : ℕ) → y ≤ z → x + y ≤ x + z
        join x y z h = omega arith

    fewer : size u - 24 < size v - 24 → pack u ≤ pack v
    fewer l = go (size u - 24) (size v - 24) _ _ l (kept-lt 24 u) (kept_ge v (lt_of_le_of_lt zero-le l))
      where
        go : (j k x y : ℕ) → j < k → x < 2 ^ 24 → 2 ^ 23 ≤ y → j * 2 ^ 23 + x ≤ k * 2 ^ 23 + y
        go j k x y l a b = omega arith

-- ---- a float without sign by its size in units of 2 ^ -149; an infinity counts as 2 ^ 277 of them

pub data Sized (x : Float) (v : ℕ) : Type 0 where
  finite : v < 2 ^ 277 → HasValue x false v (2 ^ 149) → Sized x v
  infinite : x ≡ inf false → v ≡ 2 ^ 277 → Sized x v

sized_units : (q k : ℕ) → (v : ℕ) × Sized (units binary32 false q k) v
unfolding units
sized_units q k = go (ltb (q * 2 ^ k) (2 ^ 277)) (ltb→lt (q * 2 ^ k) (2 ^ 277))
  where
    go : (b : Bool) → (T b → q * 2 ^ k < 2 ^ 277) → (v : ℕ) × Sized (cond b (odd 25 false q k 149) (inf false)) v
    go true h = (q * 2 ^ k, finite (h tt) (odd_sign 25 false q k 149))
    go false h = (2 ^ 277, infinite refl refl)

pub sized_round : (n d : ℕ) → (v : ℕ) × Sized (round binary32 false n d) v
sized_round n d =
    let k = size (n * 2 ^ 149 / d) - 24 in
    subst (λ (x : Float). (v : ℕ) × Sized x v) (sym (round_is binary32 false n d)) (sized_units (closest (n * 2 ^ 149) (d * 2 ^ k)) k)

at-infinity : to_bits binary32 (inf false) ≡ pack (2 ^ 277)
unfolding to_bits size
at-infinity = refl

pub sized-bits : {x : Float} {v : ℕ} → Sized x v → to_bits binary32 x ≡ pack v
sized-bits {x} {v} (finite h e) = to_bits-value x false v e ∙ ap (λ (z : ℕ). z + v / 2 ^ (size v - 24)) (zero-add ((size v - 24) * 2 ^ 23))
sized-bits {x} {v} (infinite e f) = ap (to_bits binary32) e ∙ at-infinity ∙ ap pack (sym f)

pub sized_high : {x : Float} {v : ℕ} → Sized x v → v ≤ 2 ^ 277
sized_high (finite h e) = le_of_lt h
sized_high (infinite e f) = le_of_eq f

values_le : (x y : Float) (u v : ℕ) → HasValue x false u (2 ^ 149) → HasValue y false v (2 ^ 149) → T (le x y) → u ≤ v
unfolding le
values_le nan y u v a b t = absurd a
values_le (inf s) y u v a b t = absurd a
values_le (fin true m e) y u v a b t = absurd (true≢false a.0)
values_le (fin false m e) nan u v a b t = absurd b
values_le (fin false m e) (inf s) u v a b t = absurd b
values_le (fin false m e) (fin true n d) u v a b t = absurd (true≢false b.0)
values_le (fin false m e) (fin false n d) u v a b t =
    le_of_mul-le-mul_right
    (transfer u v (2 ^ 149) (2 ^ 149) (m * up e) (n * up d) (down e) (down d) (down_pos e) (down_pos d) (sym a.1) (sym b.1)
    (or_le (m * up e * down d) (n * up d * down e) true t)) (pow_pos 149)

not_inf : (y : Float) (v : ℕ) → HasValue y false v (2 ^ 149) → T (le (inf false) y) → ⊥
unfolding le
not_inf nan v b t = b
not_inf (inf s) v b t = b
not_inf (fin s m e) v b t = t

pub sized_le : (x y : Float) (u v : ℕ) → Sized x u → Sized y v → T (le x y) → u ≤ v
sized_le x y u v (finite h a) (finite k b) t = values_le x y u v a b t
sized_le x y u v (finite h a) (infinite b k) t = le_trans (le_of_lt h) (le_of_eq (sym k))
sized_le x y u v (infinite a h) (finite k b) t = absurd (not_inf y v b (subst (λ (z : Float). T (le z y)) a t))
sized_le x y u v (infinite a h) (infinite b k) t = le_of_eq (h ∙ sym k)

-- ---- so the bits rise with the fraction
pub bits_mono : (a b c d : ℕ) → 0 < b → 0 < d → a * d ≤ c * b → bits_of a b ≤ bits_of c d
unfolding bits_of bits
bits_mono a b c d B D h =
    let x = sized_round a b in
    let y = sized_round c d in
    subst (λ (z : ℕ). z ≤ to_bits binary32 (round binary32 false c d)) (sym (sized-bits x.1))
    (subst (λ (z : ℕ). pack x.0 ≤ z) (sym (sized-bits y.1))
    (pack_mono x.0 y.0 (sized_le _ _ x.0 y.0 x.1 y.1 (round_mono binary32 a b c d B D h))))
