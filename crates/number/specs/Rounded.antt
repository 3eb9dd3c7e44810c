-- 02 (d): when a number was rounded.
use Rattle.std.specs.Prelude.{ℕ, ◌^◌, Bool, true, not, eqb, Float}
use Rattle.std.proofs.Math.Option.{Option, none, some}
use Rattle.number.specs.Number.{Written, nearest}
use Rattle.number.specs.Exact.{Exact, exact_of, apart}
use Rattle.number.specs.Time.{Key, written_time, stored_time}

-- ±num / den
abbrev pub fraction : Bool → ℕ → ℕ → Exact
fraction negative num den = record { negative = negative; num = num; den = den }

-- an infinity has no value; -0 is 0
abbrev pub differs : Option Exact → Exact → Bool
differs none w = true
differs (some x) w = not (eqb (apart x w) 0)

-- not "whether its f32 equals the written decimal exactly"
unfoldable pub rounded : Float → Exact → Bool
rounded x w = differs (exact_of x) w

-- of a number as it is written
unfoldable pub number_rounded : Bool → Written → Bool
number_rounded negative w = rounded (nearest negative w) (fraction negative w.digits (10 ^ w.places))

-- of a key's time: "A percent counts as rounded if its f32 isn't n/100"
unfoldable pub time_rounded : Key → Bool
time_rounded k = rounded (stored_time k) (written_time k)
