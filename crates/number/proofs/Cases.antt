-- Worked cases of the definitions, with the shelf tests' numbers.
use mathlib.Core.Path.{◌≡◌, refl}
use mathlib.Core.Bool.{true, false}
use mathlib.Core.Option.{none, some}
use Prim.Native.Nat.{ℕ}
use lib.Ieee.{round, sub, div, lt, of_bits, to_bits}
use Rattle.number.specs.Number.{Written, nearest, percent, whole, bits, f32}
use Rattle.number.specs.Time.{near}

abbrev written : ℕ → ℕ → Written
written n p = record { digits = n; places = p; point = false; exponent = false; suffix = false }

-- P14, P3, and the largest digits
tenth : bits (nearest false (written 1 1)) ≡ 0x3dcc_cccd
unfolding bits nearest round to_bits
tenth = refl

minus_zero : bits (nearest true (written 0 0)) ≡ 0x8000_0000
unfolding bits nearest round to_bits
minus_zero = refl

largest : bits (nearest false (written 9999999999999999999 9)) ≡ 0x5015_02f9
unfolding bits nearest round to_bits
largest = refl

-- P9, P10, P12, P13
fifty : near (percent false 50) (nearest false (written 5 1)) ≡ true
unfolding near percent nearest round lt sub div
fifty = refl

close : near (nearest false (written 0 0)) (nearest false (written 119 9)) ≡ true
unfolding near nearest round lt sub
close = refl

apart : near (nearest false (written 0 0)) (nearest false (written 12 8)) ≡ false
unfolding near nearest round lt sub
apart = refl

level : near (nearest false (written 16777216 0)) (nearest false (written 16777217 0)) ≡ true
unfolding near nearest round lt sub
level = refl

infinities : near (f32 0x7f80_0000) (f32 0x7f80_0000) ≡ false
unfolding near f32 of_bits lt sub
infinities = refl

-- whole numbers
most : (whole false (written 4294967295 0) ≡ some 4294967295)
    × (whole false (written 4294967296 0) ≡ none) × (whole true (written 0 0) ≡ none)
unfolding whole
most = (refl, refl, refl)
