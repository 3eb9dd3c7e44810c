-- `calls::note_calls` meets its contract.
use mathlib.Core.Path.{sym, ◌∙◌}
use native.Mathlib.Omega.{arith}
use Rattle.sheet_records.proofs.RecordLaws.{moves}
use Rattle.calls.proofs.BodyLaws.{noting-start, noting-next, noting_done}
use Rattle.calls.proofs.note_calls.Goals as goal

pub loop-at-init : goal.loop-at-init
loop-at-init c =
    let pre = c.requires in
    noting-start pre.3 pre.4 c.take_field-head.ensures.reads

pub note_record-requires : goal.note_record-requires
note_record-requires c =
    let pre = c.requires in
    (pre.0, pre.1, pre.2, c.loop-at.invariant.size, omega (arith, c.loop-at.invariant.short, c.loop-at-test.true))

pub loop-at-smaller : goal.loop-at-smaller
loop-at-smaller c = omega (arith, moves _ c.take_record-r.ensures c.loop-at-test.true, c.loop-at-test.true)

pub loop-at-preserved : goal.loop-at-preserved
loop-at-preserved c =
    let g = noting-next c.loop-at.invariant c.loop-at-test.true c.take_record-r.ensures in
    g.on _ (c.note_record.auto.calls ∙ c.loop-at.invariant.size)
    (λ xs e. c.note_record.ensures xs e g.node g.here)

pub shape_of-calls : goal.shape_of-calls
shape_of-calls c = c.loop-at.invariant.size ∙ sym c.requires.3

pub returns : goal.returns
returns c = noting_done c.loop-at.invariant c.loop-at-test.false
