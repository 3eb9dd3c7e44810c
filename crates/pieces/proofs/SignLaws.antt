-- A sign is the topmost bit of what a number is stored as.
use Prim.Native.Nat.{ℕ, zero, suc, ◌+◌, ◌-◌, ◌*◌, ◌^◌, ◌/◌, ◌%◌, ◌<◌, compare}
use mathlib.Core.Bool.{Bool, true, false, cond}
use mathlib.Core.Path.{◌≡◌, refl, ◌∙◌}
use native.Mathlib.Omega.{arith}
use lib.Dec.{ltb}
use lib.IntN.{ℤ, pos}
use lib.Ieee.{Float, fin, inf, Format, binary32, odd, units, round, div, up, down, to_bits, low, emax, prec, size}
use lib.Ieee.{nearest as nearest_of}
use Rattle.digits.specs.Numeral.{with_sign}
use Rattle.number.specs.Number.{Written, nearest, percent, bits}
use Rattle.number.specs.Time.{Key, stored_time}
use Rattle.number.proofs.Floats.{bits_lt, nearest-fits, stored-fits}

-- two floats that differ in their sign alone, the negative one first
data Signed : Float → Float → Type 0 where
  infinite : Signed (inf true) (inf false)
  finite : (m : ℕ) (e : ℤ) → Signed (fin true m e) (fin false m e)

signed-bits : {x y : Float} → Signed x y → to_bits binary32 x ≡ to_bits binary32 y + 2147483648
unfolding to_bits
signed-bits infinite = refl
signed-bits (finite m e) = omega arith

odd_signed : (d q k l : ℕ) → Signed (odd d true q k l) (odd d false q k l)
unfolding odd
odd_signed d zero k l = finite 0 (pos 0)
odd_signed d (suc q) k l = finite _ _

units_signed : (f : Format) (q k : ℕ) → Signed (units f true q k) (units f false q k)
unfolding units
units_signed f q k = go (ltb (q * 2 ^ k) (2 ^ (low f + suc (emax f))))
  where
    go : (x : Bool)
        → Signed (cond x (odd (suc (prec f)) true q k (low f)) (inf true)) (cond x (odd (suc (prec f)) false q k (low f)) (inf false))
    go true = odd_signed (suc (prec f)) q k (low f)
    go false = infinite

round_signed : (f : Format) (num den : ℕ) → Signed (round f true num den) (round f false num den)
unfolding round
round_signed f num den =
    let n = num * 2 ^ low f in
    let k = size (n / den) - prec f in
    let u = den * 2 ^ k in
    units_signed f (nearest_of (n / u) (compare (n % u * 2) u)) k

hundredth_signed : {x y : Float} → Signed x y
    → Signed (div binary32 x (round binary32 false 100 1)) (div binary32 y (round binary32 false 100 1))
unfolding div round
hundredth_signed infinite = infinite
hundredth_signed (finite m e) = round_signed binary32 (m * up e * down (pos 2)) (25 * up (pos 2) * down e)

pub nearest-signs : (w : Written) → bits (nearest true w) ≡ bits (nearest false w) + 2147483648
unfolding bits nearest
nearest-signs w = signed-bits (round_signed binary32 w.digits (10 ^ w.places))

pub percent-signs : (n : ℕ) → bits (percent true n) ≡ bits (percent false n) + 2147483648
unfolding bits percent
percent-signs n = signed-bits (hundredth_signed (round_signed binary32 n 1))

-- so without a sign that bit is clear
pub nearest-plain : (w : Written) → bits (nearest false w) < 2147483648
nearest-plain w = omega (arith, nearest-signs w, bits_lt (nearest true w) (nearest-fits true w))

pub percent-plain : (w : Written) → bits (percent false w.digits) < 2147483648
unfolding stored_time
percent-plain w =
    let k : Key = record { percent = true; negative = true; written = w } in
    omega (arith, percent-signs w.digits, bits_lt (stored_time k) (stored-fits k))

-- ---- with either sign

pub nearest-signed : (s : Bool) (w : Written) (m : ℕ) → bits (nearest false w) ≡ m → bits (nearest s w) ≡ with_sign s m
nearest-signed true w m e = nearest-signs w ∙ (rw e)
nearest-signed false w m e = e

pub percent-signed : (s : Bool) (n m : ℕ) → bits (percent false n) ≡ m → bits (percent s n) ≡ with_sign s m
percent-signed true n m e = percent-signs n ∙ (rw e)
percent-signed false n m e = e
