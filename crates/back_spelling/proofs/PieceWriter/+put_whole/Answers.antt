-- `back_spelling::PieceWriter::put_whole` meets its contract.
use Rattle.back_spelling.proofs.PageLaws.{one-digit, last-digit}
use Rattle.back_spelling.proofs.PieceWriter.+put_whole.Goals as goal

pub returns-then-n-lt10 : goal.returns-then-n-lt10
returns-then-n-lt10 t c = λ k h. one-digit _ k _ c.if-n-lt10.true c.put_byte.ensures

pub returns : goal.returns
returns t c = λ k h. last-digit _ k _ c.if-n-lt10.false h c.put_whole.ensures c.put_byte-2.ensures
