-- `book::parse_body` meets its contract.
use Rattle.book.proofs.ItemLaws.{body_refused, body_went}
use Rattle.book.proofs.parse_body.Goals as goal

pub returns-in-Refused : goal.returns-in-Refused
returns-in-Refused c = body_refused (rw c.in-Is.is at c.mark.ensures) (rw c.in-Refused.is at c.parse_nodes.ensures)

pub returns-in-Is-parse_nodes : goal.returns-in-Is-parse_nodes
returns-in-Is-parse_nodes c =
    body_went (rw c.in-Is.is at c.mark.ensures) (rw c.in-Is-parse_nodes.is at c.parse_nodes.ensures)
    c.patch_count.ensures c.leave_group.ensures c.place.ensures
