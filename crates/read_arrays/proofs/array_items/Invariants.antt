use Prim.Native.Nat.{◌-◌}
use Rattle.read_arrays.proofs.ArrayLaws.{Items}
use lib.ListN.{length}
use Rattle.read_cursor.specs.WordMeans.{at_of}
use Rattle.read_arrays.proofs.array_items.Given as goal

abbrev pub invariant-loop-m : goal.invariant-loop-m
invariant-loop-m l = Items l.text l.initial.sheet l.sheet l.initial.m l.m l.out l.at l.n

abbrev pub decreases-loop-m : goal.decreases-loop-m
decreases-loop-m l = length l.text - at_of l.m
