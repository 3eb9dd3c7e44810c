-- `back_spelling::PieceWriter::put_string` meets its contract.
use mathlib.Core.List.{[], ◌∷◌, ◌++◌}
use mathlib.Core.Path.{refl, ◌∙◌}
use Rattle.pieces.specs.Pieces.{a_string, fits, spelt}
use Rattle.back_spelling.proofs.PageLaws.{piece_judged, quoted_put}
use Rattle.back_spelling.proofs.PieceWriter.put_string.Goals as goal

pub returns : goal.returns
unfolding fits spelt
returns c =
    let args = c.args in
    c.judge.ensures
    ∙ piece_judged (a_string args.inside.now) _ ((34 ∷ args.inside.now) ++ 34 ∷ [])
    (quoted_put args.inside.now _ c.put_byte.ensures c.put_bytes.ensures
    c.put_byte-2.ensures)
    c.put_byte-3.ensures refl c.all_are.ensures
