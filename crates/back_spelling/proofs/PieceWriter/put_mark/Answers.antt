-- `back_spelling::PieceWriter::put_mark` meets its contract.
use mathlib.Core.Path.{refl}
use mathlib.Core.List.{[], ◌∷◌}
use Rattle.pieces.specs.Pieces.{a_mark, fits, spelt}
use Rattle.back_spelling.proofs.PageLaws.{piece_put}
use Rattle.back_spelling.proofs.PieceWriter.put_mark.Goals as goal

pub returns : goal.returns
unfolding fits spelt
returns c =
    piece_put (a_mark c.args.b) _ (c.args.b ∷ []) c.put_byte.ensures c.put_byte-2.ensures refl
    c.requires
