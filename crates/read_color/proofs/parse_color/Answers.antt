-- `read_color::parse_color` meets its contract.
use Rattle.read_color.proofs.ColorLaws.{no_target, no_colon, color_node}
use Rattle.read_color.proofs.parse_color.Goals as goal

pub returns-in-Missing : goal.returns-in-Missing
returns-in-Missing c = no_target (rw c.in-Missing.is at c.word_before.ensures)

pub returns-in-Missing-mark : goal.returns-in-Missing-mark
returns-in-Missing-mark c =
    no_colon c.in-Is.target (rw c.in-Is.is at c.word_before.ensures).0
    (rw c.in-Missing-mark.is at c.mark.ensures)

pub returns-in-Is-mark : goal.returns-in-Is-mark
returns-in-Is-mark c =
    let w = rw c.in-Is.is at c.word_before.ensures in
    color_node c.in-Is.target w.0 w.1 (rw c.in-Is-mark.is at c.mark.ensures)
    c.color_strings.ensures
