-- `sheet_decode::values::take_time` meets its contract: one case a position.
use Rattle.sheet_decode.proofs.ReadLaws as laws
use Rattle.sheet_decode.proofs.values.take_time.Goals as goal

pub returns : goal.returns
returns c = laws.time c.take_byte-k.ensures c.take_float-x.ensures
