-- `line::place_line` meets its contract: with room the line is written, without it nothing is.
use Rattle.std.proofs.Common.{sym, ◌∙◌}
use Rattle.line.proofs.PutLaws.{with_room, without_room}
use Rattle.line.proofs.place_line.Goals as goal

pub returns-then-has_room : goal.returns-then-has_room
returns-then-has_room c = sym (with_room _ _ _ (sym c.has_room.ensures ∙ c.if-has_room.true) c.put_line.ensures)

pub returns : goal.returns
returns c = sym (without_room _ _ _ (sym c.has_room.ensures ∙ c.if-has_room.false))
