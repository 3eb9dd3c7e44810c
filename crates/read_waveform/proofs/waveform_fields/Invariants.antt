use Rattle.read_node.proofs.StepLaws.{Gathering}
use Rattle.read_waveform.specs.Means.{waveform_cells}
use Prim.Native.Nat.{◌-◌}
use lib.ListN.{length}
use mathlib.Core.List.{[]}
use Rattle.grammar.specs.Fields.{fields_step}
use Rattle.grammar.specs.Grammar.{waveform_fields}
use Rattle.read_cursor.specs.WordMeans.{at_of}
use Rattle.read_waveform.proofs.waveform_fields.Given as goal

abbrev pub invariant-loop-r : goal.invariant-loop-r
invariant-loop-r l = Gathering fields_step l.text l.initial.m l.m waveform_fields [] (waveform_cells l.kept)

abbrev pub decreases-loop-r : goal.decreases-loop-r
decreases-loop-r l = length l.text - at_of l.m
