use Rattle.read_heads.specs.Means.{GridHeld}
use Rattle.read_heads.proofs.RowLaws.{kept_done, kept_refused, kept_start, value-last, value-more, value_refused}
use Rattle.read_heads.proofs.HeadLaws.{grid_none}
use Rattle.grammar.specs.Grammar.{grid_fields}
use borrow.Author.Tests.{not-false, not-true}
use Rattle.read_heads.proofs.grid_fields.Goals as goal

pub loop-r-init : goal.loop-r-init
loop-r-init c = kept_start GridHeld grid_fields c.args.text.now c.args.c _ c.requires grid_none

pub returns-in-Refused : goal.returns-in-Refused
returns-in-Refused c =
    let args = c.args in
    kept_refused GridHeld grid_fields
    args.text.now
    args.c
    c.loop-r.m
    c.loop-r.f
    c.loop-r.invariant
    _ _
    (rw c.in-Refused.is at c.next_grid.ensures)

pub returns-in-Done : goal.returns-in-Done
returns-in-Done c =
    let args = c.args in
    kept_done GridHeld grid_fields
    args.text.now
    args.c
    c.loop-r.m
    c.loop-r.f
    c.loop-r.invariant
    _
    (rw c.in-Done.is at c.next_grid.ensures)

pub returns-in-Refused-grid_field : goal.returns-in-Refused-grid_field
returns-in-Refused-grid_field c =
    let args = c.args in
    value_refused GridHeld grid_fields
    args.text.now
    args.c
    c.loop-r.m
    c.loop-r.f
    c.loop-r.invariant
    _ _
    (rw c.in-Field.is at c.next_grid.ensures)
    _ _
    (rw c.in-Refused-grid_field.is at c.grid_field.ensures)

pub returns-then-not-ate : goal.returns-then-not-ate
returns-then-not-ate c =
    let args = c.args in
    let z = rw (not-true c.eat-ate.result.taken c.if-not-ate.true) at c.eat-ate.ensures in
    value-last GridHeld grid_fields
    args.text.now
    args.c
    c.loop-r.m
    c.loop-r.f
    c.loop-r.invariant
    _ _
    (rw c.in-Field.is at c.next_grid.ensures)
    _
    c.eat-ate.result.next
    _
    (rw c.in-Is.is at c.grid_field.ensures)
    z

pub loop-r-preserved : goal.loop-r-preserved
loop-r-preserved c =
    let args = c.args in
    let z = rw (not-false c.eat-ate.result.taken c.if-not-ate.false) at c.eat-ate.ensures in
    value-more GridHeld grid_fields
    args.text.now
    args.c
    c.loop-r.m
    c.loop-r.f
    c.loop-r.invariant
    _ _
    (rw c.in-Field.is at c.next_grid.ensures)
    _
    c.eat-ate.result.next
    _
    (rw c.in-Is.is at c.grid_field.ensures)
    z
