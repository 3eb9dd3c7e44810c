-- `back_spelling::PieceWriter::put_pair` meets its contract.
use mathlib.Core.List.{[], ◌∷◌}
use mathlib.Core.Path.{refl, ◌∙◌, ap}
use Rattle.pieces.specs.Pieces.{a_pair, fits, spelt}
use Rattle.back_spelling.specs.Means.{put_on}
use Rattle.back_spelling.proofs.PageLaws.{piece_put, put_both}
use Rattle.back_spelling.proofs.PieceWriter.put_pair.Goals as goal

pub returns : goal.returns
unfolding fits spelt
returns c =
    let args = c.args in
    piece_put
    (a_pair args.b args.c)
    _
    (args.b ∷ args.c ∷ [])
    (c.put_byte-2.ensures
    ∙ ap (put_on (args.c ∷ [])) c.put_byte.ensures
    ∙ put_both (args.b ∷ []) (args.c ∷ []) _)
    c.put_byte-3.ensures
    refl
    (rw (c.requires.0, c.requires.1))
