use native.Mathlib.Omega.{arith}
use Rattle.text.specs.Bytes.{at}
use mathlib.Core.Path.{sym, ◌∙◌}
use Rattle.read_cursor.proofs.CursorLaws.{leave_left}
use Rattle.read_cursor.proofs.leave_group.Goals as goal

pub returns : goal.returns
returns c =
    let args = c.args in
    let l = rw (c.noted.ensures, c.short_place.ensures) at c.first_of-left.ensures in
    rw c.noting.ensures
    (leave_left args.text.now args.c c.past_group.result c.first_of-left.result args.closer c.requires
    c.past_group.ensures
    (sym (c.sees.ensures args.text.now c.requires) ∙ c.if-sees.false) (omega arith) l)
