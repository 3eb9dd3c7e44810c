-- `read_marks::parse_at` meets its contract.
use native.Mathlib.Omega.{arith}
use Rattle.read_marks.proofs.MarkLaws.{at_went, no_value}
use Rattle.read_cursor.proofs.CursorLaws.{counts}
use Rattle.number.proofs.Floats.{nearest-number}
use Rattle.read_marks.proofs.parse_at.Goals as goal

pub eat-end-requires : goal.eat-end-requires
eat-end-requires c =
    let n = rw c.in-Is.is at c.number.ensures in (
      rw c.count.ensures
          (counts _ _ _ c.at_sign-sign.ensures.ready n.ready n.rounded n.low c.float_of-x.result.rounded),
      omega arith,
    )

pub put_float-relative_at-requires : goal.put_float-relative_at-requires
put_float-relative_at-requires c = (omega (arith, c.requires.1.low), rw c.float_of-x.ensures.value (nearest-number _ _))

pub returns-in-Missing : goal.returns-in-Missing
returns-in-Missing c = no_value c.at_sign-sign.ensures (rw c.in-Missing.is at c.number.ensures)

pub returns-in-Is : goal.returns-in-Is
returns-in-Is c =
    let x = rw c.turned.ensures at c.float_of-x.ensures in
    at_went
    c.at_sign-sign.ensures
    (rw c.in-Is.is at c.number.ensures)
    x.rounded
    (rw c.count.ensures at c.eat-end.ensures)
    (rw x.value at c.put_float-relative_at.ensures)
    c.put_flag-q.ensures
