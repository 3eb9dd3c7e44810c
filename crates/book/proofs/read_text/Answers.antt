-- `book::read_text` meets its contract.
use mathlib.Core.Path.{refl}
use native.Mathlib.Omega.{arith}
use Rattle.book.proofs.BookLaws.{split_refused, split_accepted}
use Rattle.book.proofs.read_text.Goals as goal

pub returns-in-Refused : goal.returns-in-Refused
returns-in-Refused c = split_refused c.args.text.now _ (omega arith) refl (rw c.in-Refused.is at c.split.ensures)

pub returns-in-Accepted : goal.returns-in-Accepted
returns-in-Accepted c =
    rw (split_accepted c.args.text.now _ (omega arith) refl (rw c.in-Accepted.is at c.split.ensures))
    c.parse_items.ensures
