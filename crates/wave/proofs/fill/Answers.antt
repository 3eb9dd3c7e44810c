-- `wave::fill` meets its contract: after i turns the first i places are filled.
use mathlib.Core.Path.{sym}
use Rattle.drawing.proofs.WaveLaws as laws
use Rattle.wave.proofs.FillLaws as filling
use Rattle.wave.proofs.fill.Goals as goal

pub loop-i-init : goal.loop-i-init
loop-i-init c = sym (laws.none_filled _ _)

pub loop-i-preserved : goal.loop-i-preserved
loop-i-preserved c =
    filling.turn c.args.kind c.args.phase c.loop-i.i _ _ _ c.height_at.result c.loop-i.invariant
    c.step_at.ensures.0 c.height_at.ensures c.height_at.type_inv
