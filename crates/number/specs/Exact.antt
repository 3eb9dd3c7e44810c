-- Exact numbers, ±num / den, and how far apart two are.
-- 01: "Sizes and differences are judged exactly, over whole numbers": both sides of a comparison are multiplied out.
use Rattle.std.specs.Prelude.{ℕ, ◌+◌, ◌*◌, ◌-◌, Bool, cond, Float}
use Rattle.std.specs.Bool.{beq}
use Rattle.std.proofs.Math.Option.{Option, none, some}
use Rattle.std.specs.Float.{nan, inf, fin}
use Rattle.std.specs.Float.Ieee.{up, down}

pub record Exact : Type 0 where
  pub negative : Bool
  pub num : ℕ
  pub den : ℕ

-- the value of a float that is finite
abbrev pub exact_of : Float → Option Exact
exact_of nan = none
exact_of (inf s) = none
exact_of (fin s m e) = some (record { negative = s; num = m * up e; den = down e })

-- the size of ±a - ±b, the signs being s and t
abbrev pub gap : Bool → ℕ → Bool → ℕ → ℕ
gap s a t b = cond (beq s t) ((a - b) + (b - a)) (a + b)

-- the size of x - y is apart x y / dens x y
abbrev pub apart : Exact → Exact → ℕ
apart x y = gap x.negative (x.num * y.den) y.negative (y.num * x.den)

abbrev pub dens : Exact → Exact → ℕ
dens x y = x.den * y.den
