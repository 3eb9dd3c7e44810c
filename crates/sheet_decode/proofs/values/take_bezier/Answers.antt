-- `sheet_decode::values::take_bezier` meets its contract: one field after the other.
use Rattle.ast.specs.declared.EasingSpec.TheVariants as easing
use Rattle.sheet_decode.proofs.ReadLaws.{◌&◌}
use Rattle.sheet_decode.proofs.ReadLaws as laws
use Rattle.sheet_decode.proofs.values.take_bezier.Goals as goal

pub returns : goal.returns
returns c =
    laws.seen (c.take_float-x1.ensures & c.take_float-y1.ensures & c.take_float-x2.ensures
    & c.take_float-y2.ensures)
    (λ p e i. easing.CubicBezier (e i).0 (e i).1.0 (e i).1.1.0 (e i).1.1.1)
