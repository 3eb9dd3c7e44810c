-- The times of a track's frames, on the one scale that percent and seconds share.
use mathlib.Core.List.{List, [], ◌∷◌}
use lib.Ieee.{Float}
use Rattle.number.specs.Number.{f32}
use Rattle.ast.specs.Tree.{KeyframeEntry, KeyframeTime}
use Rattle.checking.specs.Rules.{time_of}

abbrev pub Entry : Type 0
Entry = KeyframeEntry KeyframeTime

abbrev pub stamp : Entry → Float
stamp x = f32 (time_of x.time)

abbrev pub stamps : List Entry → List Float
stamps [] = []
stamps (x ∷ xs) = stamp x ∷ stamps xs
