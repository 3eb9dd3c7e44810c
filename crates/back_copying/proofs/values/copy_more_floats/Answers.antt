-- `back_copying::values::copy_more_floats` meets its contract.
use mathlib.Core.Path.{refl}
use Rattle.fresh.specs.Fresh.{mark, more_floats}
use Rattle.back_copying.proofs.CopyLaws.{in_front, walk_start, walk-next, walk_done}
use Rattle.back_copying.proofs.values.copy_more_floats.Goals as goal

pub loop-k-init : goal.loop-k-init
loop-k-init c = walk_start _ _ _ _ _ _

pub loop-k-preserved : goal.loop-k-preserved
unfolding more_floats
loop-k-preserved c =
    walk-next _ _ _ _ _ _ _ (λ x xs ps. refl) c.loop-k-test.true
    (in_front (mark ",") c.put_mark.ensures c.copy_f32-next.ensures) c.loop-k.invariant

pub returns : goal.returns
unfolding more_floats
returns c = walk_done _ _ _ _ _ _ _ (λ ps. refl) c.loop-k-test.false c.loop-k.invariant
