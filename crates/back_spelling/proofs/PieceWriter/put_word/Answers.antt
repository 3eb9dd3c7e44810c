-- `back_spelling::PieceWriter::put_word` meets its contract.
use mathlib.Core.Path.{refl}
use Rattle.pieces.specs.Pieces.{a_word, fits, spelt}
use Rattle.back_spelling.proofs.PageLaws.{piece_put}
use Rattle.back_spelling.proofs.PieceWriter.put_word.Goals as goal

pub returns : goal.returns
unfolding fits spelt
returns c = piece_put (a_word c.args.word.now) _ c.args.word.now refl c.put_piece.ensures refl c.requires
