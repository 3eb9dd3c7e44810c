use native.Mathlib.Omega.{arith}
use Rattle.text.specs.Bytes.{at}
use borrow.Author.Tests.{eqb-true}
use mathlib.Core.Path.{sym, ◌∙◌}
use Rattle.read_cursor.proofs.WordLaws.{notes_small}
use Rattle.read_cursor.proofs.CursorLaws.{hops}
use Rattle.token.proofs.WholeLaws.{both}
use Rattle.read_cursor.proofs.hop.Goals as goal

pub mark_word-requires : goal.mark_word-requires
mark_word-requires c = (rw c.notes.ensures (notes_small c.args.c), omega (arith, c.end-e.ensures, c.requires.head.high, c.requires.short))

pub returns-then-byte_at-b : goal.returns-then-byte_at-b
returns-then-byte_at-b c =
    let t = both _ _ c.if-byte_at-b.true in
    let b = rw c.end-e.ensures at (sym c.byte_at.ensures ∙ eqb-true _ _ t.0) in
    rw (rw (c.notes.ensures, c.end-e.ensures) at c.mark_word.ensures)
    (hops c.args.text.now c.args.c c.args.b c.requires (sym c.is_mark.ensures ∙ t.1) b)
