use Rattle.read_node.proofs.StepLaws.{Gathering}
use Rattle.read_spring.specs.Means.{spring_cells}
use Prim.Native.Nat.{◌-◌}
use lib.ListN.{length}
use mathlib.Core.List.{[]}
use Rattle.grammar.specs.Fields.{fields_step}
use Rattle.grammar.specs.Grammar.{spring_fields}
use Rattle.read_cursor.specs.WordMeans.{at_of}
use Rattle.read_spring.proofs.spring_fields.Given as goal

abbrev pub invariant-loop-r : goal.invariant-loop-r
invariant-loop-r l = Gathering fields_step l.text l.initial.m l.m spring_fields [] (spring_cells l.kept)

abbrev pub decreases-loop-r : goal.decreases-loop-r
decreases-loop-r l = length l.text - at_of l.m
