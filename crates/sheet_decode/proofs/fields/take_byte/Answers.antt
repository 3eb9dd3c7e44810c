-- `sheet_decode::fields::take_byte` meets its contract: the byte is there and below n, is n or more, or the bytes have ended.
use native.Mathlib.Omega.{arith}
use Rattle.sheet_decode.proofs.ReadLaws as laws
use Rattle.sheet_decode.proofs.fields.take_byte.Goals as goal

pub returns-then-b-n : goal.returns-then-b-n
returns-then-b-n c = record { reads = laws.byte_got _ _ _ (omega arith) c.if-b-n.true; small = c.if-b-n.true }
