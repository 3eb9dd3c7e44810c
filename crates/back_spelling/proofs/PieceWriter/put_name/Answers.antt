-- `back_spelling::PieceWriter::put_name` meets its contract.
use mathlib.Core.Path.{refl, ◌∙◌}
use Rattle.pieces.specs.Pieces.{a_name, fits, spelt}
use Rattle.back_spelling.proofs.PageLaws.{piece_judged}
use Rattle.back_spelling.proofs.PieceWriter.put_name.Goals as goal

pub returns : goal.returns
unfolding fits spelt
returns c =
    let args = c.args in
    c.judge.ensures
    ∙ piece_judged (a_name args.name.now) _ args.name.now refl c.put_piece.ensures refl
    c.is_name_like.ensures
