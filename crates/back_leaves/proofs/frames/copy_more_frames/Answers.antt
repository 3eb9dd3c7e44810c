-- `back_leaves::frames::copy_more_frames` meets its contract.
use mathlib.Core.Path.{refl}
use Rattle.fresh.specs.Fresh.{mark}
use Rattle.back_copying.proofs.CopyLaws.{in_front, walk_start, walk-next, walk_done}
use Rattle.back_leaves.specs.Means.{comma_frames}
use Rattle.back_leaves.proofs.frames.copy_more_frames.Goals as goal

pub loop-k-init : goal.loop-k-init
loop-k-init c = walk_start _ _ _ _ _ _

pub loop-k-preserved : goal.loop-k-preserved
unfolding comma_frames
loop-k-preserved c =
    walk-next _ _ _ _ _ _ _ (λ x xs ps. refl) c.loop-k-test.true
    (in_front (mark ",") c.put_mark.ensures c.copy_frame-next.ensures) c.loop-k.invariant

pub returns : goal.returns
unfolding comma_frames
returns c = walk_done _ _ _ _ _ _ _ (λ ps. refl) c.loop-k-test.false c.loop-k.invariant
