-- A whole number as a list of limbs of 32 bits, the lowest first.
use Rattle.std.specs.Prelude.{List, ℕ, zero, suc, ◌+◌, ◌*◌, ◌^◌, get_or, length}

-- what the lowest i limbs say
unfoldable pub up_to : ℕ → List ℕ → ℕ
up_to zero xs = 0
up_to (suc i) xs = up_to i xs + get_or xs i 0 * 4294967296 ^ i

-- what all of them say
abbrev pub val : List ℕ → ℕ
val xs = up_to (length xs) xs
