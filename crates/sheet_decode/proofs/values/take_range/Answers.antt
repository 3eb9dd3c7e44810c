-- `sheet_decode::values::take_range` meets its contract: one field after the other.
use Rattle.sheet_decode.proofs.ReadLaws.{◌&◌}
use Rattle.sheet_decode.proofs.values.take_range.Goals as goal

pub returns : goal.returns
returns c = c.take_float-start.ensures & c.take_float-end.ensures
