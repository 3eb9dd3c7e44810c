use Rattle.read_node.proofs.StepLaws.{Gathering}
use Rattle.read_node.specs.CellMeans.{AllSay}
use Rattle.read_draw.specs.Means.{draw_cells}
use Rattle.read_cursor.specs.WordMeans.{at_of}
use Rattle.read_cursor.specs.Means.{Ready}
use Prim.Native.Nat.{◌-◌}
use lib.ListN.{length}
use Rattle.grammar.specs.Fields.{Fields, fields_step}
use Rattle.grammar.specs.Grammar.{draw_fields}
use Rattle.read_draw.proofs.draw_fields.Given as goal

abbrev pub invariant-loop-r : goal.invariant-loop-r
invariant-loop-r l =
    Ready l.text l.m
    × ((fs : Fields) → AllSay l.text (at_of l.initial.m) (at_of l.initial.m) (draw_cells l.initial.kept) fs → Gathering fields_step l.text l.initial.m l.m draw_fields fs (draw_cells l.kept))

abbrev pub decreases-loop-r : goal.decreases-loop-r
decreases-loop-r l = length l.text - at_of l.m
