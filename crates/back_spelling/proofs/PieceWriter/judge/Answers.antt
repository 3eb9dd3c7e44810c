-- `back_spelling::PieceWriter::judge` meets its contract.
use Rattle.back_spelling.specs.Means.{page_of}
use Rattle.back_spelling.proofs.PageLaws.{lent_of_lem}
use Rattle.back_spelling.proofs.PieceWriter.judge.Goals as goal

pub returns-then-not-fits : goal.returns-then-not-fits
unfolding page_of
returns-then-not-fits c = rw (c.if-not-fits.true, lent_of_lem c.args.self.now)
