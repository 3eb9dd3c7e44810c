-- `sheet_shape::walk::take_frames` meets its contract: the loop keeps what is read and counted from the start.
use Rattle.std.proofs.Common.{◌+◌, ap, arith, refl}
use Rattle.sheet_shape.specs.Means.{wrapped}
use Rattle.sheet_shape.proofs.FrameLaws.{frames-start, frames-next, frames_done, wrap_lt}
use Rattle.sheet_shape.proofs.walk.take_frames.Goals as goal

pub loop-init : goal.loop-init
loop-init c = (omega arith, frames-start c.args.w c.args.n c.args.s.now c.args.at c.args.count)

pub loop-preserved : goal.loop-preserved
loop-preserved c =
    let u = ap (λ x. wrapped (c.loop.numbers + x)) c.numbers_of-numbers.ensures in (
      wrap_lt _ _ refl,
      frames-next c.args.w c.args.n _ _ _ _ _ _ _ _ _ c.loop-test.true c.take_frame-frame.ensures u
          c.loop.invariant.1,
    )

pub returns : goal.returns
returns c = frames_done c.args.w c.args.n _ _ _ _ _ _ c.loop-test.false c.loop.invariant.0 c.loop.invariant.1
