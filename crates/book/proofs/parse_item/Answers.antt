-- `book::parse_item` meets its contract.
use Rattle.book.proofs.ItemLaws.{no_name, no_equals, no_body, item_went}
use Rattle.book.proofs.parse_item.Goals as goal

pub returns-in-Missing : goal.returns-in-Missing
returns-in-Missing c =
    let args = c.args in
    no_name args.text.now args.c (rw c.in-Missing.is at c.word.ensures)

pub returns-in-Missing-mark : goal.returns-in-Missing-mark
returns-in-Missing-mark c =
    let t = rw c.in-Is.is at c.word.ensures in
    no_equals t.0 (rw c.in-Missing-mark.is at c.mark.ensures)

pub returns-in-Refused : goal.returns-in-Refused
returns-in-Refused c =
    let t = rw c.in-Is.is at c.word.ensures in
    no_body t.0 (rw c.in-Is-mark.is at c.mark.ensures)
    (rw c.in-Refused.is at c.parse_body.ensures)

pub returns-in-Is-parse_body : goal.returns-in-Is-parse_body
returns-in-Is-parse_body c =
    let t = rw c.in-Is.is at c.word.ensures in
    item_went t.0 t.1 (rw c.in-Is-mark.is at c.mark.ensures)
    (rw c.in-Is-parse_body.is at c.parse_body.ensures) c.place.ensures
