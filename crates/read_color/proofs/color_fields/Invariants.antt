use Rattle.read_node.proofs.StepLaws.{Gathering}
use Rattle.read_color.specs.Means.{color_cells}
use Prim.Native.Nat.{◌-◌}
use lib.ListN.{length}
use mathlib.Core.List.{[]}
use Rattle.grammar.specs.Fields.{fields_step}
use Rattle.grammar.specs.Grammar.{color_fields}
use Rattle.read_cursor.specs.WordMeans.{at_of}
use Rattle.read_color.proofs.color_fields.Given as goal

abbrev pub invariant-loop-r : goal.invariant-loop-r
invariant-loop-r l = Gathering fields_step l.text l.initial.m l.m color_fields [] (color_cells l.kept)

abbrev pub decreases-loop-r : goal.decreases-loop-r
decreases-loop-r l = length l.text - at_of l.m
