-- `sheet_decode::values::take_named` meets its contract: one field after the other.
use Rattle.ast.specs.declared.EasingSpec.TheVariants as easing
use Rattle.sheet_decode.proofs.ReadLaws.{◌&◌}
use Rattle.sheet_decode.proofs.ReadLaws as laws
use Rattle.sheet_decode.proofs.values.take_named.Goals as goal

pub returns : goal.returns
returns c = laws.seen (c.take_flag-p.ensures & c.take_span-w.ensures) (λ p e i. easing.Named (e i).0 (e i).1)
