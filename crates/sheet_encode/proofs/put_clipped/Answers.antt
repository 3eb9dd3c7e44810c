-- `sheet_encode::put_clipped` meets its contract: the loop writes the last byte first.
use native.Mathlib.Omega.{arith}
use Rattle.sheet_encode.proofs.FieldLaws.{filling_more, filling_all}
use Rattle.sheet_encode.proofs.put_clipped.Goals as goal

pub loop-k-preserved : goal.loop-k-preserved
loop-k-preserved c = rw c.put.ensures.bytes (filling_more c.loop-k.invariant (omega arith))

pub returns : goal.returns
returns c = filling_all c.loop-k.invariant (omega arith)
