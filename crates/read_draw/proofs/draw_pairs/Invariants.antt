use Rattle.read_cursor.specs.WordMeans.{at_of}
use Rattle.read_node.proofs.StepLaws.{Gathering, pair_step}
use Rattle.read_draw.specs.Means.{draw_cells}
use mathlib.Core.List.{[]}
use Prim.Native.Nat.{◌-◌}
use lib.ListN.{length}
use Rattle.grammar.specs.Grammar.{draw_fields}
use Rattle.read_draw.proofs.draw_pairs.Given as goal

abbrev pub invariant-loop-r : goal.invariant-loop-r
invariant-loop-r l = Gathering pair_step l.text l.initial.m l.m draw_fields [] (draw_cells l.kept)

abbrev pub decreases-loop-r : goal.decreases-loop-r
decreases-loop-r l = length l.text - at_of l.m
