use native.Mathlib.Omega.{arith}
use Rattle.text.specs.Bytes.{at}
use Rattle.token.proofs.TokenLaws.{rest_of, start_high}
use Rattle.read_cursor.proofs.WordLaws.{notes_small}
use Rattle.read_cursor.proofs.CursorLaws.{starts}
use lib.ListN.{length-drop}
use Rattle.read_cursor.proofs.start.Goals as goal

pub slice_bounds-token_word-count : goal.slice_bounds-token_word-count
slice_bounds-token_word-count c = omega (arith, start_high c.args.text.now c.args.at _ c.past_blanks-s.ensures c.requires.0)

pub slice_bounds-token_word-start : goal.slice_bounds-token_word-start
slice_bounds-token_word-start c = omega (arith, start_high c.args.text.now c.args.at _ c.past_blanks-s.ensures c.requires.0)

pub token_word-requires : goal.token_word-requires
token_word-requires c =
    let args = c.args in
    let high = start_high args.text.now args.at _ c.past_blanks-s.ensures c.requires.0 in (
      rw c.notes.ensures (notes_small args.c),
      rw (rest_of args.text.now c.past_blanks-s.result, length-drop) (omega (arith, c.requires.1, high)),
    )

pub returns : goal.returns
returns c =
    let args = c.args in
    let pre = c.requires in
    rw (rw (rest_of args.text.now c.past_blanks-s.result, c.notes.ensures) at c.token_word.ensures)
    (starts args.text.now args.at c.past_blanks-s.result args.c c.past_blanks-s.ensures pre.0
    pre.1 pre.2 pre.3)
