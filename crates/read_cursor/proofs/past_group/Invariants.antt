use Prim.Native.Nat.{◌-◌}
use Rattle.read_cursor.proofs.CursorLaws.{Leaving}
use lib.ListN.{length}
use Rattle.read_cursor.specs.WordMeans.{at_of}
use Rattle.read_cursor.proofs.past_group.Given as goal

abbrev pub invariant-loop-m : goal.invariant-loop-m
invariant-loop-m l = Leaving l.text l.initial.m l.m l.d

abbrev pub decreases-loop-m : goal.decreases-loop-m
decreases-loop-m l = length l.text - at_of l.m
