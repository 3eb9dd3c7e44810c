-- `read_arrays::array_items` meets its contract.
use Rattle.read_arrays.proofs.ArrayLaws.{few, items-last, items_more}
use borrow.Author.Tests.{not-false, not-true}
use Rattle.read_arrays.proofs.ArrayLaws.{items_end, items_refused}
use native.Mathlib.Omega.{arith}
use mathlib.Core.Path.{sym, ◌∙◌}
use Rattle.read_arrays.proofs.array_items.Goals as goal

pub returns-then-ends : goal.returns-then-ends
returns-then-ends c =
    let args = c.args in
    items_end
    args.text.now
    args.sheet.now
    c.loop-m.sheet
    args.c
    c.loop-m.m
    args.out
    c.loop-m.at
    c.loop-m.n
    c.loop-m.invariant
    (sym (c.ends.ensures args.text.now c.loop-m.invariant.listed.ready) ∙ c.if-ends.true)

pub returns-in-Refused : goal.returns-in-Refused
returns-in-Refused c =
    let args = c.args in
    items_refused
    args.text.now
    args.sheet.now
    c.loop-m.sheet
    args.c
    c.loop-m.m
    args.out
    c.loop-m.at
    c.loop-m.n
    c.loop-m.invariant
    _ _
    (sym (c.ends.ensures args.text.now c.loop-m.invariant.listed.ready) ∙ c.if-ends.false)
    (rw c.in-Refused.is at c.parse_float.ensures)

pub overflow_add-n : goal.overflow_add-n
overflow_add-n c =
    let pre = c.requires in
    omega (
      arith,
      c.loop-m.invariant.count,
      c.loop-m.invariant.paid,
      few c.loop-m.invariant.xs c.loop-m.invariant.writes,
      c.loop-m.invariant.listed.ready.high,
      pre.1.short,
      pre.1.low,
    )

pub returns-then-not-ate : goal.returns-then-not-ate
returns-then-not-ate c =
    let args = c.args in
    let t = rw c.in-Is.is at c.parse_float.ensures in
    items-last
    args.text.now
    args.sheet.now
    c.loop-m.sheet
    args.c
    c.loop-m.m
    args.out
    c.loop-m.at
    c.loop-m.n
    c.loop-m.invariant
    (sym (c.ends.ensures args.text.now c.loop-m.invariant.listed.ready) ∙ c.if-ends.false)
    _
    c.eat-ate.result.next
    _
    t.0
    c.put_float-at.new.sheet
    c.put_float-at.result
    c.put_float-at.ensures
    (rw (not-true c.eat-ate.result.taken c.if-not-ate.true) at c.eat-ate.ensures)

pub loop-m-preserved : goal.loop-m-preserved
loop-m-preserved c =
    let args = c.args in
    let t = rw c.in-Is.is at c.parse_float.ensures in
    let z = rw (not-false c.eat-ate.result.taken c.if-not-ate.false) at c.eat-ate.ensures in
    items_more
    args.text.now
    args.sheet.now
    c.loop-m.sheet
    args.c
    c.loop-m.m
    args.out
    c.loop-m.at
    c.loop-m.n
    c.loop-m.invariant
    (sym (c.ends.ensures args.text.now c.loop-m.invariant.listed.ready) ∙ c.if-ends.false)
    _
    c.eat-ate.result.next
    _
    t.0
    c.put_float-at.new.sheet
    c.put_float-at.result
    c.put_float-at.ensures
    z
