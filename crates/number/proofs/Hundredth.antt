-- A whole percent up to 2 ^ 24 is rounded once.
use mathlib.Core.Path.{◌≡◌}
use Prim.Native.Nat.{ℕ, ◌≤◌}
use mathlib.Core.Bool.{Bool, false}
use lib.Dec.{lit≤, lit<}
use lib.Ieee.{binary32, round}
use lib.Ieee.Back.{round_whole}
use Rattle.number.specs.Number.{percent}
use Rattle.number.proofs.Division.{quotient_once}

pub percent_once : (s : Bool) (n : ℕ) → n ≤ 16777216 → percent s n ≡ round binary32 s n 100
unfolding percent
percent_once s n h =
    quotient_once (round binary32 s n 1) (round binary32 false 100 1) s n 100 (lit< tt) (round_whole binary32 s n h)
    (round_whole binary32 false 100 (lit≤ tt))
