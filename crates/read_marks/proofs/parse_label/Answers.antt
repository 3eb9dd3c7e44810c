-- `read_marks::parse_label` meets its contract.
use Rattle.read_marks.proofs.MarkLaws.{label_went, no_semicolon, no_string}
use lib.ListN.{length}
use Rattle.read_marks.proofs.parse_label.Goals as goal

pub returns-in-Missing : goal.returns-in-Missing
returns-in-Missing c = no_string (rw c.in-Missing.is at c.string.ensures)

pub returns-in-Missing-mark : goal.returns-in-Missing-mark
returns-in-Missing-mark c = no_semicolon (rw c.in-Is.is at c.string.ensures).0 (rw c.in-Missing-mark.is at c.mark.ensures)

pub returns-in-Is-mark : goal.returns-in-Is-mark
returns-in-Is-mark c =
    label_went (rw c.in-Is.is at c.string.ensures).0 (rw c.in-Is-mark.is at c.mark.ensures)
    (c.put_span.ensures (length c.args.text.now))
