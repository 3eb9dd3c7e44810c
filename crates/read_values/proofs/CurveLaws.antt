-- The fields of `rough` and `slowmo`, one more at a time.
use Rattle.std.specs.Prelude.{Some, None, Option as Optional}
use Prim.Native.Nat.{ℕ}
use mathlib.Core.List.{[]}
use mathlib.Core.Option.{Option}
use mathlib.Core.Path.{◌≡◌, refl}
use lib.Ieee.{Float, binary32, round, to_bits, of_bits, is_nan}
use Rattle.text.specs.Bytes.{bytes, same}
use Rattle.number.specs.Number.{bits}
use Rattle.text.specs.Words.{default}
use Rattle.grammar.specs.Values.{f32_of}
use Rattle.sheet_encode.specs.Means.{Plain, opt_float_of}
use Rattle.grammar.specs.Fields.{a_number, last}
use Rattle.read_values.specs.Means.{Holds, RoughHeld, SlowMoHeld, FloatOr}
use Rattle.read_values.specs.declared.SlowMoFields.{SlowMoFields}
use Rattle.read_values.specs.declared.RoughFields.{RoughFields}

pub rough_none : RoughHeld (record { strength = None; points = None }) []
unfolding last
rough_none = record { strength = refl; plain = tt; points = refl }

pub rough_strength : (f : RoughFields) (x : Float) → Plain x
    → Holds RoughHeld f (record { strength = Some x; points = f.points }) (bytes "strength") (a_number (bits x))
unfolding last same
rough_strength f x p fs h = record { strength = refl; plain = p; points = h.points }

pub rough_points : (f : RoughFields) (n : ℕ)
    → Holds RoughHeld f (record { strength = f.strength; points = Some n }) (bytes "points") (a_number n)
unfolding last same
rough_points f n fs h = record { strength = h.strength; plain = h.plain; points = refl }

pub slow_none : SlowMoHeld (record { linear_ratio = None; power = None }) []
unfolding last
slow_none = record { linear_ratio = refl; plain_ratio = tt; power = refl; plain_power = tt }

pub slow_ratio : (f : SlowMoFields) (x : Float) → Plain x
    → Holds SlowMoHeld f (record { linear_ratio = Some x; power = f.power }) (bytes "linear_ratio") (a_number (bits x))
unfolding last same
slow_ratio f x p fs h = record { linear_ratio = refl; plain_ratio = p; power = h.power; plain_power = h.plain_power }

pub slow_power : (f : SlowMoFields) (x : Float) → Plain x
    → Holds SlowMoHeld f (record { linear_ratio = f.linear_ratio; power = Some x }) (bytes "power") (a_number (bits x))
unfolding last same
slow_power f x p fs h = record { linear_ratio = h.linear_ratio; plain_ratio = h.plain_ratio; power = refl; plain_power = p }

-- ---- what is there, or else another

pub float_or : {o : Optional Float} {x : Option ℕ} {d r : Float} {b : ℕ} → FloatOr o d r → opt_float_of o ≡ x → bits d ≡ b → bits r ≡ default x b
float_or h e q = rw (← e, ← q) h.is

-- the literals 0.5, 0.7 and 2.0
pub a_half : bits (of_bits binary32 1056964608) ≡ f32_of 1 2
unfolding bits f32_of round to_bits of_bits
a_half = refl

pub seven_tenths : bits (of_bits binary32 1060320051) ≡ f32_of 7 10
unfolding bits f32_of round to_bits of_bits
seven_tenths = refl

pub two_wholes : bits (of_bits binary32 1073741824) ≡ f32_of 2 1
unfolding bits f32_of round to_bits of_bits
two_wholes = refl

pub plain_half : Plain (of_bits binary32 1056964608)
unfolding of_bits is_nan
plain_half = tt

pub plain_seven : Plain (of_bits binary32 1060320051)
unfolding of_bits is_nan
plain_seven = tt

pub plain-two : Plain (of_bits binary32 1073741824)
unfolding of_bits is_nan
plain-two = tt
