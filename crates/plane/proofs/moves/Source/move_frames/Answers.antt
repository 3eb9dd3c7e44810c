-- `plane::moves::Source::move_frames` meets its contract: whatever stands before the first frame stands, moved on, before the next.
use mathlib.Core.Path.{◌∙◌}
use native.Mathlib.Omega.{arith}
use Rattle.plane.proofs.FramesMoveLaws.{frame_ready, frame_done, last}
use Rattle.plane.proofs.moves.Source.move_frames.Goals as goal

pub move_frame-progress-requires : goal.move_frame-progress-requires
move_frame-progress-requires c =
    let d = c.requires in
    let l = c.loop.invariant.0 in
    let h = frame_ready d c.loop-test.true (c.loop.invariant.1 d) c.take_frame-frame.ensures in record {
      done_le_at = h.before;
      width_in_bounds = h.inside;
      at_in_bounds = omega (arith, h.fits, l);
      numbers_in_bounds = omega (arith, l, d.pair.fits);
      number_left = h.one;
      two_left = h.two;
    }

pub loop-preserved : goal.loop-preserved
loop-preserved c = (
  c.move_frame-progress.auto.out ∙ c.loop.invariant.0,
  λ d. frame_done d c.loop-test.true (c.loop.invariant.1 d) c.take_frame-frame.ensures c.move_frame-progress.ensures,
)

pub returns : goal.returns
returns c = λ d. last (omega (arith, c.loop-test.false)) (c.loop.invariant.1 d)
