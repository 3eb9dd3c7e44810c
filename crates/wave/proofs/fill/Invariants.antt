use mathlib.Core.Path.{◌≡◌}
use Rattle.drawing.specs.Wave.{filled, shifted}
use Rattle.wave.proofs.fill.Given as goal

abbrev pub invariant-loop-i : goal.invariant-loop-i
invariant-loop-i l = l.heights ≡ filled (shifted l.kind l.phase) l.i l.initial.heights
