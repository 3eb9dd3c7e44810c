-- `plane::moves::Source::move_all` meets its contract: record by record, then the bytes behind the last number.
use mathlib.Core.Path.{◌∙◌}
use native.Mathlib.Omega.{arith}
use Rattle.plane.proofs.AllMoveLaws.{ready, moved, further, tail, ended}
use Rattle.plane.proofs.moves.Source.move_all.Goals as goal

pub move_record-moved-requires : goal.move_record-moved-requires
move_record-moved-requires c =
    let pre = c.requires in
    ready (pre) c.loop-at.invariant.0 (c.loop-at.invariant.1 (pre)) c.loop-at-test.true

pub loop-at-smaller : goal.loop-at-smaller
loop-at-smaller c =
    let pre = c.requires in
    let f = further (pre) c.loop-at.invariant.0 (c.loop-at.invariant.1 (pre)) c.loop-at-test.true
    c.move_record-moved.ensures
    in
    omega (arith, f, c.loop-at-test.true)

pub loop-at-preserved : goal.loop-at-preserved
loop-at-preserved c = (
  c.move_record-moved.auto.out ∙ c.loop-at.invariant.0,
  λ d. moved d c.loop-at.invariant.0 (c.loop-at.invariant.1 d) c.loop-at-test.true c.move_record-moved.ensures,
)

pub overflow_sub-end : goal.overflow_sub-end
overflow_sub-end c =
    let pre = c.requires in
    (tail (pre) c.loop-at.invariant.0 (c.loop-at.invariant.1 (pre)) c.loop-at-test.false).0

pub copy-requires : goal.copy-requires
copy-requires c =
    let pre = c.requires in
    let t = tail (pre) c.loop-at.invariant.0 (c.loop-at.invariant.1 (pre)) c.loop-at-test.false in
    record {
      k_in_bounds = omega (arith, t.0, t.1);
      k_in_bounds_2 = t.2;
    }

pub returns : goal.returns
returns c = λ d. ended d c.loop-at.invariant.0 (c.loop-at.invariant.1 d) c.loop-at-test.false c.copy.ensures
