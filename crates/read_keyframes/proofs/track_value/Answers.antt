-- `read_keyframes::track_value` meets its contract.
use Rattle.read_keyframes.proofs.TrackLaws.{block_went}
use Rattle.read_keyframes.proofs.track_value.Goals as goal

pub returns-in-Is : goal.returns-in-Is
returns-in-Is c =
    block_went (rw c.in-Is.is at c.track_items.ensures) c.patch_count.ensures
    c.put_opt_loop-end.ensures c.leave_group.ensures
