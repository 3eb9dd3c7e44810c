-- `back_spelling::PieceWriter::put_plain` meets its contract.
use mathlib.Core.Path.{refl, ◌∙◌}
use Rattle.pieces.specs.Pieces.{a_plain, fits, spelt}
use Rattle.back_spelling.proofs.PageLaws.{piece_judged}
use Rattle.back_spelling.proofs.PieceWriter.put_plain.Goals as goal

pub returns : goal.returns
unfolding fits spelt
returns c =
    let args = c.args in
    c.judge.ensures
    ∙ piece_judged (a_plain args.name.now) _ args.name.now refl c.put_piece.ensures refl
    c.is_plain.ensures
