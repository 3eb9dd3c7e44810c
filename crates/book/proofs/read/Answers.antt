-- `book::read` meets its contract.
use mathlib.Core.Path.{sym, ◌∙◌}
use Rattle.book.proofs.BookLaws.{name_twice, too_many, book_wrong, book-held}
use Rattle.book.proofs.read.Goals as goal

pub returns-then-has_twice : goal.returns-then-has_twice
returns-then-has_twice c =
    let h = rw c.in-Is.is at c.read_text.ensures in
    name_twice h (sym c.if-has_twice.true ∙ c.has_twice.ensures h.items h.rows h.count)

pub returns-then-n-gt-ITEM_LIMIT : goal.returns-then-n-gt-ITEM_LIMIT
returns-then-n-gt-ITEM_LIMIT c =
    let h = rw c.in-Is.is at c.read_text.ensures in
    too_many h (sym c.if-has_twice.false ∙ c.has_twice.ensures h.items h.rows h.count) c.if-n-gt-ITEM_LIMIT.true

pub returns-in-Refused : goal.returns-in-Refused
returns-in-Refused c = book_wrong c.args.text.now (rw c.in-Refused.is at c.read_text.ensures)

pub returns-else-n-gt-ITEM_LIMIT : goal.returns-else-n-gt-ITEM_LIMIT
returns-else-n-gt-ITEM_LIMIT c =
    let h = rw c.in-Is.is at c.read_text.ensures in
    book-held h (sym c.if-has_twice.false ∙ c.has_twice.ensures h.items h.rows h.count) c.if-n-gt-ITEM_LIMIT.false
