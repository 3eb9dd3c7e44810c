use Rattle.read_cursor.specs.WordMeans.{at_of}
use Prim.Native.Nat.{◌-◌}
use Rattle.read_fields.proofs.FieldLaws.{Passed}
use lib.ListN.{length}
use Rattle.read_fields.proofs.parse_field_list.Given as goal

abbrev pub invariant-loop-m : goal.invariant-loop-m
invariant-loop-m l = Passed l.text l.initial.m l.m

abbrev pub decreases-loop-m : goal.decreases-loop-m
decreases-loop-m l = length l.text - at_of l.m
