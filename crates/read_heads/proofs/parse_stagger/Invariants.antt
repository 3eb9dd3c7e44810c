use Prim.Native.Nat.{◌-◌}
use Rattle.read_heads.proofs.StaggerLaws.{Opened}
use Rattle.read_heads.specs.Means.{PlainOpening, opening_of}
use lib.ListN.{length}
use Rattle.read_cursor.specs.WordMeans.{at_of}
use Rattle.read_heads.proofs.parse_stagger.Given as goal

abbrev pub invariant-loop-pattern : goal.invariant-loop-pattern
invariant-loop-pattern l = Opened l.text l.initial.m l.m (opening_of l.f) × PlainOpening l.f

abbrev pub decreases-loop-pattern : goal.decreases-loop-pattern
decreases-loop-pattern l = length l.text - at_of l.m
