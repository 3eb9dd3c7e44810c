-- `number::percent` meets its contract: up to 2 ^ 24 it is rounded once.
use mathlib.Core.Path.{sym, ap, ◌∙◌}
use lib.Ieee.{Float}
use Rattle.number.specs.Rounded.{fraction, rounded}
use Rattle.number.proofs.Hundredth.{percent_once}
use Rattle.number.proofs.percent.Goals as goal

pub returns-then-n-le16777216 : goal.returns-then-n-le16777216
returns-then-n-le16777216 c =
    let args = c.args in
    let once = sym (percent_once args.negative args.n c.if-n-le16777216.true) in record {
      value = c.decimal.ensures.value ∙ once;
      rounded = c.decimal.ensures.rounded ∙ ap (λ (x : Float). rounded x (fraction args.negative args.n 100)) once;
    }
