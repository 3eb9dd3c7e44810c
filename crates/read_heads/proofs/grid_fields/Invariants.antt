use Prim.Native.Nat.{◌-◌}
use Rattle.read_heads.specs.Means.{GridHeld}
use Rattle.read_heads.proofs.RowLaws.{Kept}
use Rattle.grammar.specs.Grammar.{grid_fields}
use lib.ListN.{length}
use Rattle.read_cursor.specs.WordMeans.{at_of}
use Rattle.read_heads.proofs.grid_fields.Given as goal

abbrev pub invariant-loop-r : goal.invariant-loop-r
invariant-loop-r l = Kept GridHeld grid_fields l.text l.initial.m l.m l.f

abbrev pub decreases-loop-r : goal.decreases-loop-r
decreases-loop-r l = length l.text - at_of l.m
