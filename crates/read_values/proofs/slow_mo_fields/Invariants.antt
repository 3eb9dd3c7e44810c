use mathlib.Core.List.{[]}
use Prim.Native.Nat.{◌-◌}
use Rattle.grammar.specs.Fields.{Fields, one_pair}
use Rattle.read_fields.proofs.ListLaws.{Listed}
use Rattle.read_values.specs.Means.{SlowMoHeld}
use lib.ListN.{length}
use Rattle.grammar.specs.Rule.{list_step}
use Rattle.grammar.specs.Values.{slow_mo_fields}
use Rattle.read_cursor.specs.WordMeans.{at_of}
use Rattle.read_values.proofs.slow_mo_fields.Given as goal

abbrev pub invariant-loop-r : goal.invariant-loop-r
invariant-loop-r l = (fs : Fields) × Listed (list_step (one_pair slow_mo_fields)) l.text l.initial.m l.m [] fs × SlowMoHeld l.f fs

abbrev pub decreases-loop-r : goal.decreases-loop-r
decreases-loop-r l = length l.text - at_of l.m
