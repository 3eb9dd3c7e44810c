-- `back_spelling::PieceWriter::put_count` meets its contract.
use Rattle.back_spelling.proofs.NumberLaws.{count-put}
use borrow.Author.Rules.{rules}
use Rattle.back_spelling.proofs.PieceWriter.put_count.Goals as goal

pub returns : goal.returns
returns c = count-put c.args.n _ (search rules) (rw c.from.ensures at c.put_whole.ensures) c.put_byte.ensures
