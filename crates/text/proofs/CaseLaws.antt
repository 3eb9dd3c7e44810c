-- Either case of a test, with its equation: what a proof by cases takes as an argument.
use mathlib.Core.Bool.{Bool, true, false}
use mathlib.Core.Path.{◌≡◌, refl}

pub data Case (b : Bool) : Type 0 where
  yes! : b ≡ true → Case b
  no! : b ≡ false → Case b

pub case : (b : Bool) → Case b
case true = yes! refl
case false = no! refl
