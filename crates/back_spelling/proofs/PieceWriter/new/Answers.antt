-- `back_spelling::PieceWriter::new` meets its contract.
use mathlib.Core.Path.{refl}
use Rattle.back_spelling.specs.Means.{page_of}
use Rattle.back_spelling.proofs.PieceWriter.new.Goals as goal

pub returns-clause-page : goal.returns-clause-page
unfolding page_of
returns-clause-page c = refl
