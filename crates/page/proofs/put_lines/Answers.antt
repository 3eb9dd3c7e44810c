-- `page::put_lines` meets its contract: the loop keeps that the record with the ordinal stands from start to end, and that the page has
-- the lines before it.
use mathlib.Core.Path.{refl, sym, ◌∙◌}
use native.Mathlib.Omega.{arith}
use Rattle.sheet_records.proofs.PlaceLaws.{first, next}
use Rattle.sheet_records.proofs.RecordLaws.{moves}
use Rattle.page.proofs.PageLaws.{goes, goes_refused, goes_last, goes_on}
use Rattle.page.proofs.put_lines.Goals as goal

pub loop-page-init : goal.loop-page-init
loop-page-init c = (omega arith, omega arith, refl, λ ns e. goes _ _ (first _ _ ns e c.take_field-head.ensures.reads))

pub returns-then-not-has_room : goal.returns-then-not-has_room
returns-then-not-has_room c =
    λ ns e. goes_refused (c.loop-page.invariant.3 ns e)
    (sym c.has_room.ensures ∙ c.if-not-has_room.true)
    c.put_refusal.ensures

pub returns-then-sheet-end : goal.returns-then-sheet-end
returns-then-sheet-end c =
    λ ns e. goes_last (c.loop-page.invariant.3 ns e)
    (sym c.has_room.ensures ∙ c.if-not-has_room.false)
    (rw c.part.ensures at c.put_line-at.ensures) c.if-sheet-end.true c.put_accept.ensures

pub loop-page-smaller : goal.loop-page-smaller
loop-page-smaller c = omega (arith, moves _ c.take_record-next.ensures c.if-sheet-end.false)

pub loop-page-preserved : goal.loop-page-preserved
loop-page-preserved c =
    let m = moves _ c.take_record-next.ensures c.if-sheet-end.false in (
      omega arith,
      omega arith,
      c.put_line-at.auto.out ∙ c.loop-page.invariant.2,
      λ ns e. goes_on (c.loop-page.invariant.3 ns e)
          (sym c.has_room.ensures ∙ c.if-not-has_room.false)
          (rw c.part.ensures at c.put_line-at.ensures)
          (next _ _ _ (c.loop-page.invariant.3 ns e).stands c.if-sheet-end.false c.take_record-next.ensures),
    )
