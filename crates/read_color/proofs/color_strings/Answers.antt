-- `read_color::color_strings` meets its contract.
use Rattle.read_color.proofs.ColorLaws.{no_from, no_arrow, no_to, strings_end}
use Rattle.read_color.proofs.color_strings.Goals as goal

pub returns-in-Missing : goal.returns-in-Missing
returns-in-Missing c =
    let args = c.args in
    no_from args.target (rw c.in-Missing.is at c.string.ensures)

pub returns-in-Missing-both : goal.returns-in-Missing-both
returns-in-Missing-both c =
    let args = c.args in
    no_arrow args.target (rw c.in-Is.is at c.string.ensures).0
    (rw c.in-Missing-both.is at c.both.ensures)

pub returns-in-Missing-string : goal.returns-in-Missing-string
returns-in-Missing-string c =
    let args = c.args in
    no_to args.target (rw c.in-Is.is at c.string.ensures).0
    (rw c.in-Is-both.is at c.both.ensures) (rw c.in-Missing-string.is at c.string-in-Is-both.ensures)

pub returns-in-Is-string : goal.returns-in-Is-string
returns-in-Is-string c =
    let args = c.args in
    strings_end args.target (rw c.in-Is.is at c.string.ensures).0
    (rw c.in-Is-both.is at c.both.ensures) (rw c.in-Is-string.is at c.string-in-Is-both.ensures).0
    c.color_end.ensures
