use Rattle.read_heads.proofs.StaggerLaws.{opened_block, opened_last, opened_more, opened_refused}
use Rattle.read_heads.specs.Means.{opening_of}
use borrow.Author.Tests.{not-false, not-true}
use mathlib.Core.Path.{sym, ◌∙◌}
use Rattle.read_heads.proofs.parse_stagger.Goals as goal

pub returns-then-sees : goal.returns-then-sees
returns-then-sees c =
    let args = c.args in
    let e = sym (c.sees.ensures args.text.now c.loop-pattern.invariant.0.ready) ∙ c.if-sees.true in
    (opened_block args.text.now args.c c.loop-pattern.m (opening_of c.loop-pattern.f) c.loop-pattern.invariant.0 e, c.loop-pattern.invariant.1.0, c.loop-pattern.invariant.1.1)

pub returns-in-Refused : goal.returns-in-Refused
returns-in-Refused c =
    let args = c.args in
    let e = sym (c.sees.ensures args.text.now c.loop-pattern.invariant.0.ready) ∙ c.if-sees.false in
    opened_refused
    args.text.now
    args.c
    c.loop-pattern.m
    (opening_of c.loop-pattern.f)
    c.loop-pattern.invariant.0
    e _ _
    (rw c.in-Refused.is at c.opening_field.ensures)

pub returns-then-not-ate : goal.returns-then-not-ate
returns-then-not-ate c =
    let args = c.args in
    let e = sym (c.sees.ensures args.text.now c.loop-pattern.invariant.0.ready) ∙ c.if-sees.false in
    let y = rw c.in-Is.is at c.opening_field.ensures in
    let z = rw (not-true c.eat-ate.result.taken c.if-not-ate.true) at c.eat-ate.ensures in (
      opened_last args.text.now args.c c.loop-pattern.m (opening_of c.loop-pattern.f) c.loop-pattern.invariant.0 e _ c.eat-ate.result.next _ y.0 z,
      y.1.0,
      y.1.1,
    )

pub loop-pattern-preserved : goal.loop-pattern-preserved
loop-pattern-preserved c =
    let args = c.args in
    let e = sym (c.sees.ensures args.text.now c.loop-pattern.invariant.0.ready) ∙ c.if-sees.false in
    let y = rw c.in-Is.is at c.opening_field.ensures in
    let z = rw (not-false c.eat-ate.result.taken c.if-not-ate.false) at c.eat-ate.ensures in (
      opened_more args.text.now args.c c.loop-pattern.m (opening_of c.loop-pattern.f) c.loop-pattern.invariant.0 e _ c.eat-ate.result.next _ y.0 z,
      y.1,
    )
