-- `counts::count_records` meets its contract: the loop keeps what the records that stand from end on still add.
use native.Mathlib.Omega.{arith}
use Rattle.counts.proofs.WalkLaws.{counting_start, counting_next, counting_done}
use Rattle.sheet_records.proofs.RecordLaws.{moves}
use Rattle.counts.proofs.count_records.Goals as goal

pub loop-end-init : goal.loop-end-init
loop-end-init c =
    let pre = c.requires in
    counting_start pre.words pre.sheet c.take_field-head.ensures.reads

pub add-requires : goal.add-requires
add-requires c =
    let s = counting_next c.loop-end.invariant c.loop-end-test.true c.take_record-r.ensures in
    record {
      i_in_bounds = omega (arith, s.kinds, s.long);
      n_bound = s.kind_room;
    }

pub overflow_cast-r-in-loop-end : goal.overflow_cast-r-in-loop-end
overflow_cast-r-in-loop-end c =
    let s = counting_next c.loop-end.invariant c.loop-end-test.true c.take_record-r.ensures in
    omega (arith, s.entries_room)

pub add-requires-in-loop-end-clause-n_bound : goal.add-requires-in-loop-end-clause-n_bound
add-requires-in-loop-end-clause-n_bound c =
    let s = counting_next c.loop-end.invariant c.loop-end-test.true c.take_record-r.ensures in
    rw c.add.ensures s.entries_room

pub loop-end-smaller : goal.loop-end-smaller
loop-end-smaller c = omega (arith, moves _ c.take_record-r.ensures c.loop-end-test.true, c.loop-end-test.true)

pub loop-end-preserved : goal.loop-end-preserved
loop-end-preserved c =
    let s = counting_next c.loop-end.invariant c.loop-end-test.true c.take_record-r.ensures in
    rw (c.add-in-loop-end.ensures, c.add.ensures) s.after

pub returns : goal.returns
returns c = counting_done c.loop-end.invariant c.loop-end-test.false
