-- `back_copying::fields::put_choice` meets its contract.
use mathlib.Core.Path.{◌∙◌}
use Prim.Native.Nat.{◌<◌}
use lib.ListN.{length}
use Rattle.pieces.specs.Pieces.{a_word}
use Rattle.back_copying.specs.WordMeans.{texts}
use Rattle.back_copying.proofs.CopyLaws.{one_piece, called}
use Rattle.back_copying.proofs.TableLaws.{length-texts, text_at, word-at, chosen_word}
use Rattle.back_copying.proofs.fields.put_choice.Goals as goal

pub put_word-requires : goal.put_word-requires
put_word-requires c =
    let names = c.args.names.now in
    let l : c.args.position < length (texts names) = rw (length-texts names) c.requires.1 in
    rw (c.as_bytes.ensures.value ∙ text_at names c.args.position _ c.requires.1) (word-at (texts names) c.args.position c.requires.0 l)

pub returns : goal.returns
returns c =
    let names = c.args.names.now in
    let l : c.args.position < length (texts names) = rw (length-texts names) c.requires.1 in
    λ ns e. called (one_piece (a_word _) c.put_word.ensures)
    (chosen_word ns (texts names) c.args.position e l (c.as_bytes.ensures.value ∙ text_at names c.args.position _ c.requires.1))
