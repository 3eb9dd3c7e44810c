-- `wave::quarter` meets its contract.
use Rattle.drawing.proofs.WaveLaws as laws
use mathlib.Core.Path.{sym, ◌∙◌}
use Rattle.wave.proofs.quarter.Goals as goal

pub returns-then-kind-eq0 : goal.returns-then-kind-eq0
returns-then-kind-eq0 c = (c.sine.ensures ∙ sym (laws.is_sine _ _ c.if-kind-eq0.true), rw c.sine.ensures (laws.sine_most _ c.requires))

pub returns-else-kind-eq0 : goal.returns-else-kind-eq0
returns-else-kind-eq0 c = (
  c.triangle.ensures ∙ sym (laws.is_triangle _ _ c.if-kind-eq0.false),
  rw c.triangle.ensures (laws.triangle-most _ c.requires),
)
