use Prim.Native.Nat.{◌-◌}
use lib.ListN.{length}
use Rattle.read_tokens.proofs.CountLaws.{Counted}
use Rattle.read_cursor.specs.WordMeans.{at_of}
use Rattle.read_tokens.proofs.count_from.Given as goal

abbrev pub invariant-loop-m : goal.invariant-loop-m
invariant-loop-m l = Counted l.text l.initial.m l.m l.n

abbrev pub decreases-loop-m : goal.decreases-loop-m
decreases-loop-m l = length l.text - at_of l.m
