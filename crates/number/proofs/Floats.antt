-- Bit patterns there and back, and that no number is stored as a NaN.
use mathlib.Core.Path.{◌≡◌, refl, sym, ap, ◌∙◌, subst}
use Prim.Native.Nat.{ℕ, zero, suc, ◌-◌, ◌*◌, ◌/◌, ◌%◌, ◌^◌, ◌<◌}
use mathlib.Core.Bool.{Bool, true, false, not, cond}
use lib.Dec.{T, ltb}
use lib.IntN.{pos}
use lib.Ieee.{Float, nan, inf, fin, binary32, size, odd, units, round, div, unlike, up, down, is_nan, fits}
use lib.Ieee.Fits.{round_is, round-fits, div-fits}
use lib.Ieee.Bits.{of_bits-to_bits, to_bits-lt, of_bits-fits, nan_bits_is, nan_bits_above}
use lib.Ieee.Nearest.{closest}
use Rattle.number.specs.Number.{Written, nearest, percent, bits, f32}
use Rattle.number.specs.Time.{Key, stored_time}

-- ---- there and back
pub f32-bits : (x : Float) → T (fits binary32 x) → f32 (bits x) ≡ x
unfolding bits f32
f32-bits x h = of_bits-to_bits binary32 x h

pub bits_lt : (x : Float) → T (fits binary32 x) → bits x < 2 ^ 32
unfolding bits
bits_lt x h = to_bits-lt binary32 x h

pub f32-fits : (n : ℕ) → T (fits binary32 (f32 n))
unfolding f32
f32-fits n = of_bits-fits binary32 n

-- a pattern is a NaN's if it is above the infinity's, its sign left off
pub f32_nan : (n : ℕ) → is_nan (f32 n) ≡ ltb 2139095040 (n % 2147483648)
unfolding f32
f32_nan n = sym (nan_bits_is binary32 n) ∙ nan_bits_above binary32 n

-- ---- a rounded fraction is no NaN
odd_number : (d : ℕ) (s : Bool) (q k l : ℕ) → is_nan (odd d s q k l) ≡ false
unfolding odd is_nan
odd_number d s zero k l = refl
odd_number d s (suc q) k l = refl

units_number : (s : Bool) (q k : ℕ) → is_nan (units binary32 s q k) ≡ false
unfolding units
units_number s q k = go (ltb (q * 2 ^ k) (2 ^ 277))
  where
    go : (b : Bool) → is_nan (cond b (odd 25 s q k 149) (inf s)) ≡ false
    go true = odd_number 25 s q k 149
    go false = unfold is_nan in refl

is_number : (x : Float) → is_nan x ≡ false → T (not (is_nan x))
is_number x e = subst (λ (b : Bool). T (not b)) (sym e) tt

pub round_number : (s : Bool) (n d : ℕ) → T (not (is_nan (round binary32 s n d)))
round_number s n d =
    let k = size (n * 2 ^ 149 / d) - 24 in
    is_number (round binary32 s n d) (ap is_nan (round_is binary32 s n d) ∙ units_number s (closest (n * 2 ^ 149) (d * 2 ^ k)) k)

pub nearest-number : (s : Bool) (w : Written) → T (not (is_nan (nearest s w)))
unfolding nearest
nearest-number s w = round_number s w.digits (10 ^ w.places)

pub nearest-fits : (s : Bool) (w : Written) → T (fits binary32 (nearest s w))
unfolding nearest
nearest-fits s w = round-fits binary32 s w.digits (10 ^ w.places)

-- ---- nor is a percent
pub hundred : round binary32 false 100 1 ≡ fin false 25 (pos 2)
unfolding round
hundred = refl

hundredth_number : (x : Float) → T (not (is_nan x)) → T (not (is_nan (div binary32 x (fin false 25 (pos 2)))))
unfolding div is_nan
hundredth_number nan t = t
hundredth_number (inf true) t = tt
hundredth_number (inf false) t = tt
hundredth_number (fin s m e) t = round_number (unlike s false) (m * up e * 1) (100 * down e)

pub percent-number : (s : Bool) (n : ℕ) → T (not (is_nan (percent s n)))
unfolding percent
percent-number s n = rw hundred (hundredth_number (round binary32 s n 1) (round_number s n 1))

pub percent-fits : (s : Bool) (n : ℕ) → T (fits binary32 (percent s n))
unfolding percent
percent-fits s n = div-fits binary32 (round binary32 s n 1) (round binary32 false 100 1)

-- ---- a keyframe's time
module _ (t : Key) where
  pub stored-fits : T (fits binary32 (stored_time t))
  unfolding stored_time
  stored-fits = go t.percent
    where
      go : (b : Bool) → T (fits binary32 (cond b (percent t.negative t.written.digits) (nearest t.negative t.written)))
      go true = percent-fits t.negative t.written.digits
      go false = nearest-fits t.negative t.written
