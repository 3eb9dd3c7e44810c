-- `sheet_decode::fields::take_flag` meets its contract: a byte below 2, seen as a truth value.
use lib.Dec.{eqb}
use Rattle.sheet_decode.proofs.ReadLaws as laws
use Rattle.sheet_decode.proofs.fields.take_flag.Goals as goal

pub returns : goal.returns
returns c = laws.through _ _ (laws.mapped (λ b. eqb b 1) c.take_byte-b.ensures.reads)
