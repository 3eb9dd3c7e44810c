-- `wave::mirror` meets its contract.
use Rattle.drawing.proofs.WaveLaws as laws
use Rattle.wave.proofs.FillLaws as filling
use mathlib.Core.Path.{refl, sym, ◌∙◌}
use Rattle.wave.proofs.mirror.Goals as goal

pub returns-then-p-lt128 : goal.returns-then-p-lt128
returns-then-p-lt128 c =
    filling.given c.less.result c.less.type_inv ∙ c.less.ensures
    ∙ (rw (c.quarter.ensures.0, c.fold.ensures.0) refl)
    ∙ sym (laws.up _ _ c.if-p-lt128.true)

pub returns-else-p-lt128 : goal.returns-else-p-lt128
returns-else-p-lt128 c =
    filling.given c.less-else-p-lt128.result c.less-else-p-lt128.type_inv ∙ c.less-else-p-lt128.ensures
    ∙ (rw (c.quarter-else-p-lt128.ensures.0, c.fold-else-p-lt128.ensures.0) refl)
    ∙ sym (laws.down _ _ c.if-p-lt128.false)
