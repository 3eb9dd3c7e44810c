-- Written numbers, and the f32 that each is stored as.
use Rattle.std.specs.Prelude.{ℕ, ◌^◌, Bool, false, ◌||◌, cond, ltb, Float}
use Rattle.std.proofs.Math.Option.{Option, none, some}
use Rattle.std.specs.Float.{binary32}
use Rattle.std.specs.Float.Ieee.{round, div, to_bits, of_bits}

-- 01: "a written number is a whole number over a power of ten", digits / 10 ^ places, an exponent multiplied out; `point` where a point or
-- an exponent is written, so that it is no whole number's form; `exponent` where one is; `suffix` where an `s` follows
pub record Written : Type 0 where
  pub digits : ℕ
  pub places : ℕ
  pub point : Bool
  pub exponent : Bool
  pub suffix : Bool

-- 01: "the nearest f32, ties to even (IEEE 754), a negative one by its sign"
unfoldable pub nearest : Bool → Written → Float
nearest negative w = round binary32 negative w.digits (10 ^ w.places)

-- 01: "A whole percent n becomes n as f32, divided by 100.0"
unfoldable pub percent : Bool → ℕ → Float
percent negative n = div binary32 (round binary32 negative n 1) (round binary32 false 100 1)

-- 01: "`parse_uint` refuses every negative, `-0` too, and all above 4,294,967,295"
unfoldable pub whole : Bool → Written → Option ℕ
whole negative w = cond (negative || ltb 4294967295 w.digits) none (some w.digits)

-- an f32 as its bit pattern, and back
unfoldable pub bits : Float → ℕ
bits x = to_bits binary32 x

unfoldable pub f32 : ℕ → Float
f32 n = of_bits binary32 n
