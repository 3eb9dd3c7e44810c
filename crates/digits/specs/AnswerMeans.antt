-- What the code's answers stand for.
use Rattle.std.specs.Prelude.{ℕ, ◌+◌, ◌*◌, ◌^◌, ◌<◌, ◌≡◌, Some, None}
use Rattle.std.specs.Prelude.{Option as Maybe}
use Rattle.std.proofs.Math.Option.{Option, none, some}
use Rattle.text.specs.Limits.{places_limit}
use Rattle.digits.specs.Fewest.{trimmed}
use Rattle.digits.specs.declared.Decimal.{Decimal}

-- the number that its parts make
abbrev pub whole_number : Decimal → ℕ
whole_number r = r.n + (r.middle + r.high * 10 ^ 18) * 10 ^ 18

-- it over 10 ^ places, if there is one
abbrev pub number_of : Maybe Decimal → Option (ℕ × ℕ)
number_of (Some r) = some (whole_number r, r.places)
number_of None = none

-- so many parts, with no zero at the end
abbrev pub decimal_of : Option ℕ → Option (ℕ × ℕ)
decimal_of none = none
decimal_of (some m) = some (trimmed places_limit m)

-- what else is known of its parts
pub record Neat (r : Decimal) : Type 0 where
  pub far : 9 < r.places → r.n < 10 ^ 10
  pub parts : 0 < r.places → (r.middle ≡ 0) × (r.high ≡ 0)
  pub n : 0 < r.middle + r.high → r.n < 10 ^ 18
  pub middle : r.middle < 10 ^ 18
  pub high : r.high < 10 ^ 4

abbrev pub whole_of : Option ℕ → Option (ℕ × ℕ)
whole_of none = none
whole_of (some n) = some (n, 0)
