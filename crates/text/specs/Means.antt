-- What the enums of the code stand for. Contracts cite these.
use Rattle.std.specs.Prelude.{ℕ, Bool, Option as Found, Some, None}
use Rattle.std.proofs.Math.Option.{Option, none, some}
use Rattle.text.specs.Bytes.{is_blank, is_digit, is_letter, is_name, is_inside, is_hex, is_foreign}
use Rattle.text.specs.declared.Class.{Class}
use Rattle.text.specs.declared.Class.TheVariants as class

-- the test that a class of bytes stands for
abbrev pub passes : Class → ℕ → Bool
passes class.Blank = is_blank
passes class.Digit = is_digit
passes class.Letter = is_letter
passes class.NameByte = is_name
passes class.Inside = is_inside
passes class.Hex = is_hex
passes class.Foreign = is_foreign

-- the place that a lookup found, if any
abbrev pub place_of : Found ℕ → Option ℕ
place_of (Some i) = some i
place_of None = none
