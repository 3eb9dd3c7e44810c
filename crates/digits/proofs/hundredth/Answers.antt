-- `digits::hundredth` meets its contract: the f32 is a whole number, and this is its percent.
use mathlib.Core.Bool.{false}
use mathlib.Core.Path.{◌≡◌, ◌∙◌}
use Rattle.number.specs.Number.{percent}
use Rattle.digits.specs.Means.{float_whole}
use Rattle.digits.proofs.PercentLaws.{float_is, measured, not_nan}
use Rattle.digits.proofs.hundredth.Goals.{After-percent_from-p}
use Rattle.digits.proofs.hundredth.Goals as goal

divided : (w : After-percent_from-p) → w.percent_from-p.result.value ≡ percent false (float_whole w.args.y)
divided w =
    let y = w.args.y in
    w.percent_from-p.ensures.value false (float_whole y) (w.f32_of_bits.ensures ∙ float_is y w.requires.0 w.requires.1)

pub bits_of-requires : goal.bits_of-requires
bits_of-requires c = not_nan _ (divided c)

pub returns : goal.returns
returns c = measured _ c.bits_of.ensures (divided (goal.at.returns c).After-percent_from-p)
