-- `convert::convert_records` meets its contract: the records before the place are converted, those from it on are as they were.
use native.Mathlib.Omega.{arith}
use Rattle.sheet_records.proofs.RecordLaws.{moves}
use Rattle.convert.proofs.WalkLaws.{walked_start, walked_room, walked_next, walked_all}
use Rattle.convert.proofs.convert_records.Goals as goal

pub loop-at-init : goal.loop-at-init
loop-at-init c = walked_start c.requires c.take_field-head.ensures.reads

pub convert_record-at-requires : goal.convert_record-at-requires
convert_record-at-requires c = walked_room c.loop-at.invariant c.loop-at-test.true

pub loop-at-smaller : goal.loop-at-smaller
loop-at-smaller c =
    let w = walked_next c.loop-at.invariant c.loop-at-test.true c.convert_record-at.ensures.passes_record
    c.convert_record-at.ensures.sheet_after
    in
    omega (
      arith,
      w.same_size,
      c.loop-at.invariant.same_size,
      c.loop-at-test.true,
      moves _ c.convert_record-at.ensures.passes_record.reads c.loop-at-test.true,
    )

pub loop-at-preserved : goal.loop-at-preserved
loop-at-preserved c =
    walked_next c.loop-at.invariant c.loop-at-test.true c.convert_record-at.ensures.passes_record
    c.convert_record-at.ensures.sheet_after

pub returns : goal.returns
returns c = walked_all c.loop-at.invariant c.loop-at-test.false
