-- `back_spelling::PieceWriter::put_bytes` meets its contract.
use mathlib.Core.Path.{sym, ◌∙◌}
use Rattle.back_spelling.specs.Means.{page_of}
use Rattle.back_spelling.proofs.PageLaws.{no_room, with_room}
use Rattle.back_spelling.proofs.PieceWriter.put_bytes.Goals as goal

pub returns-then-has_room : goal.returns-then-has_room
unfolding page_of
returns-then-has_room c =
    let p = c.args.self.now in
    rw c.copy.ensures
    (with_room p.out.ghost_name p.pen.at p.pen.fits p.out.now c.args.part.now (sym c.has_room.ensures ∙ c.if-has_room.true))

pub returns-else-has_room : goal.returns-else-has_room
unfolding page_of
returns-else-has_room c =
    let p = c.args.self.now in
    no_room p.out.ghost_name p.pen.at p.pen.fits p.out.now c.args.part.now (sym c.has_room.ensures ∙ c.if-has_room.false)
