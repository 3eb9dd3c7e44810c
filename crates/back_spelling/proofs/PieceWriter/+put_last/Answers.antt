-- `back_spelling::PieceWriter::put_last` meets its contract.
use native.Mathlib.Omega.{arith}
use Rattle.back_spelling.proofs.PageLaws.{no_digits, more_digits}
use Rattle.back_spelling.proofs.PieceWriter.+put_last.Goals as goal

pub returns-then-k-eq0 : goal.returns-then-k-eq0
returns-then-k-eq0 t c = no_digits _ _ _ c.if-k-eq0.true

pub returns : goal.returns
returns t c = more_digits _ _ _ _ (omega arith) c.put_last.ensures c.put_byte.ensures
