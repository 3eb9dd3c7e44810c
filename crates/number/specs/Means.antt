-- What the code's answers stand for.
use Rattle.std.specs.Prelude.{ℕ, ◌<◌, ◌⊎◌, ◌≡◌, Option, Some, None}
use Rattle.std.proofs.Math.Option as math

abbrev pub value_of : Option ℕ → math.Option ℕ
value_of (Some n) = math.some n
value_of None = math.none

-- the number n, or, where it is above 4,294,967,295, another such number
abbrev pub Capped : ℕ → ℕ → Type 0
Capped v n = (v ≡ n) ⊎ ((4294967295 < v) × (4294967295 < n))
