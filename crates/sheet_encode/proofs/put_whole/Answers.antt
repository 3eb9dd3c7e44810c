-- `sheet_encode::put_whole` meets its contract: the loop writes the last byte first.
use native.Mathlib.Omega.{arith}
use Rattle.sheet_encode.proofs.FieldLaws.{filling_more, filling_all}
use Rattle.sheet_encode.proofs.put_whole.Goals as goal

pub loop-k-preserved : goal.loop-k-preserved
loop-k-preserved c = filling_more c.loop-k.invariant (omega arith)

pub returns : goal.returns
returns c = filling_all c.loop-k.invariant (omega arith)
