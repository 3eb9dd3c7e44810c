-- `wave::height_at` meets its contract.
use Rattle.drawing.proofs.WaveLaws as laws
use Rattle.wave.proofs.FillLaws as filling
use mathlib.Core.Path.{sym, ◌∙◌}
use native.Mathlib.Omega.{arith}
use Rattle.wave.proofs.height_at.Goals as goal

pub returns-in-1 : goal.returns-in-1
returns-in-1 c = filling.given c.less.result c.less.type_inv ∙ c.less.ensures ∙ sym (laws.is_sawtooth _ _ c.in-1.is)

pub returns-then-p-lt128 : goal.returns-then-p-lt128
returns-then-p-lt128 c =
    filling.given c.less-then-p-lt128.result c.less-then-p-lt128.type_inv ∙ c.less-then-p-lt128.ensures
    ∙ sym (laws.is_high _ _ (λ e. omega arith) c.in-2.is c.if-p-lt128.true)

pub returns-else-p-lt128 : goal.returns-else-p-lt128
returns-else-p-lt128 c =
    filling.given c.less-else-p-lt128.result c.less-else-p-lt128.type_inv ∙ c.less-else-p-lt128.ensures
    ∙ sym (laws.is_low _ _ (λ e. omega arith) c.in-2.is c.if-p-lt128.false)

pub returns-in_default : goal.returns-in_default
returns-in_default c =
    filling.given c.mirror.result c.mirror.type_inv ∙ c.mirror.ensures
    ∙ sym (laws.is_mirrored _ _ (λ e. omega arith) (λ e. omega arith))
