-- `back_spelling::PieceWriter::put_fraction` meets its contract.
use Rattle.back_spelling.proofs.PageLaws.{no_fraction, a_fraction}
use Rattle.back_spelling.proofs.PieceWriter.put_fraction.Goals as goal

pub returns-then-places-eq0 : goal.returns-then-places-eq0
returns-then-places-eq0 c = no_fraction _ _ _ c.if-places-eq0.true

pub returns : goal.returns
returns c = a_fraction _ _ _ c.if-places-eq0.false c.put_byte.ensures c.put_last.ensures
