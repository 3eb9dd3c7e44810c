-- `book::parse_items` meets its contract.
use mathlib.Core.Path.{refl, sym, ◌∙◌}
use Rattle.book.proofs.BookLaws.{reading-start, reading_left, reading_done, reading_refused, reading-more}
use Rattle.book.proofs.parse_items.Goals as goal

pub loop-sheet-init : goal.loop-sheet-init
loop-sheet-init c = (refl, reading-start c.first-c.ensures c.told-table)

pub returns-in-At : goal.returns-in-At
returns-in-At c =
    let r = c.loop-sheet.invariant.1 in
    reading_left r (sym (c.ends.ensures c.args.text.now r.walked.ready) ∙ c.if-ends.true)
    (rw c.in-At.is at c.leftover.ensures)

pub returns-in-Nothing : goal.returns-in-Nothing
returns-in-Nothing c =
    let r = c.loop-sheet.invariant.1 in
    reading_done r (sym (c.ends.ensures c.args.text.now r.walked.ready) ∙ c.if-ends.true)
    (rw c.in-Nothing.is at c.leftover.ensures)

pub returns-in-Refused : goal.returns-in-Refused
returns-in-Refused c =
    let r = c.loop-sheet.invariant.1 in
    reading_refused r (sym (c.ends.ensures c.args.text.now r.walked.ready) ∙ c.if-ends.false)
    (rw c.in-Refused.is at c.parse_item.ensures)

pub loop-sheet-preserved : goal.loop-sheet-preserved
loop-sheet-preserved c =
    let g = rw c.in-Is.is at c.parse_item.ensures in
    let r = c.loop-sheet.invariant.1 in (
      c.parse_item.auto.sheet ∙ c.loop-sheet.invariant.0,
      rw c.row_of.ensures
          (reading-more r (sym (c.ends.ensures c.args.text.now r.walked.ready) ∙ c.if-ends.false) g),
    )
