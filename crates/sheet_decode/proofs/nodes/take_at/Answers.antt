-- `sheet_decode::nodes::take_at` meets its contract: one field after the other.
use Rattle.sheet.specs.Sheet.{of_at, to_at}
use Rattle.sheet_decode.proofs.ReadLaws.{◌&◌}
use Rattle.sheet_decode.proofs.ReadLaws as laws
use Rattle.sheet_decode.proofs.nodes.take_at.Goals as goal

pub returns : goal.returns
returns c =
    laws.through to_at of_at (laws.seen (c.take_float-value.ensures & c.take_flag-relative.ensures)
    (λ p e i. record { value = (e i).0; relative = (e i).1 }))
