-- `read_values::rough_fields` meets its contract.
use mathlib.Core.List.{[]}
use Rattle.grammar.specs.Fields.{one_pair, pairs}
use Rattle.read_fields.proofs.ListLaws.{listed_done, listed_gives, listed_start, pair-last, pair-more, pair_refused}
use native.Mathlib.Omega.{arith}
use Rattle.grammar.specs.Rule.{list_step}
use borrow.Author.Tests.{not-false, not-true}
use Rattle.read_values.proofs.CurveLaws.{rough_none}
use Rattle.grammar.specs.Values.{rough_fields}
use Rattle.read_values.proofs.rough_fields.Goals as goal

pub loop-r-init : goal.loop-r-init
loop-r-init c = (
  [],
  listed_start (list_step (one_pair rough_fields)) c.args.text.now c.args.c [] c.requires,
  rough_none,
)

pub returns-in-Refused : goal.returns-in-Refused
unfolding pairs
returns-in-Refused c =
    let args = c.args in
    let n = rw c.in-Refused.is at c.next_rough.ensures in
    listed_gives
    (list_step (one_pair rough_fields))
    args.text.now
    args.c
    c.loop-r.m
    []
    c.loop-r.invariant.0
    c.loop-r.invariant.1
    _
    (n c.loop-r.invariant.0)

pub returns-in-Done : goal.returns-in-Done
unfolding pairs
returns-in-Done c =
    let args = c.args in
    let n = rw c.in-Done.is at c.next_rough.ensures in (
      c.loop-r.invariant.0,
      listed_done
          (list_step (one_pair rough_fields))
          args.text.now
          args.c
          c.loop-r.m
          []
          c.loop-r.invariant.0
          c.loop-r.invariant.1
          _
          (rw n.0 c.loop-r.invariant.1.ready)
          (rw n.0 (omega arith))
          (rw n.0 (n.1 c.loop-r.invariant.0)),
      c.loop-r.invariant.2,
    )

pub returns-in-Refused-rough_field : goal.returns-in-Refused-rough_field
unfolding pairs
returns-in-Refused-rough_field c =
    let args = c.args in
    let n = rw c.in-Field.is at c.next_rough.ensures in
    let h = rw c.in-Refused-rough_field.is at c.rough_field.ensures in
    pair_refused
    args.text.now
    rough_fields
    args.c
    c.loop-r.m
    _ []
    c.loop-r.invariant.0
    c.loop-r.invariant.1
    _ n _ _
    (h n.row n.is)

pub returns-then-not-ate : goal.returns-then-not-ate
unfolding pairs
returns-then-not-ate c =
    let args = c.args in
    let n = rw c.in-Field.is at c.next_rough.ensures in
    let h = (rw c.in-Is.is at c.rough_field.ensures) n.row n.is in
    let z = rw (not-true c.eat-ate.result.taken c.if-not-ate.true) at c.eat-ate.ensures in (
      _,
      pair-last
          args.text.now
          rough_fields
          args.c
          c.loop-r.m
          _ []
          c.loop-r.invariant.0
          c.loop-r.invariant.1
          _ n _
          c.eat-ate.result.next
          h.0
          h.1
          z,
      h.2 c.loop-r.invariant.0 c.loop-r.invariant.2,
    )

pub loop-r-preserved : goal.loop-r-preserved
loop-r-preserved c =
    let args = c.args in
    let n = rw c.in-Field.is at c.next_rough.ensures in
    let h = (rw c.in-Is.is at c.rough_field.ensures) n.row n.is in
    let z = rw (not-false c.eat-ate.result.taken c.if-not-ate.false) at c.eat-ate.ensures in (
      _,
      pair-more
          args.text.now
          rough_fields
          args.c
          c.loop-r.m
          _ []
          c.loop-r.invariant.0
          c.loop-r.invariant.1
          _ n _
          c.eat-ate.result.next
          h.0
          h.1
          z,
      h.2 c.loop-r.invariant.0 c.loop-r.invariant.2,
    )
