-- `read_keyframes::track_frame` meets its contract.
use mathlib.Core.Bool.{false, true}
use native.Mathlib.Omega.{arith}
use Rattle.read_keyframes.proofs.EntryLaws.{frame_went}
use Rattle.read_keyframes.proofs.TrackLaws.{frame_refused, frame_step}
use Rattle.read_keyframes.proofs.track_frame.Goals as goal

pub returns-then-ate : goal.returns-then-ate
returns-then-ate c =
    let args = c.args in
    frame_step
    args.text.now
    args.t
    args.sheet.now
    _ _ _ _
    (frame_went (rw c.in-Is.is at c.keyframe_entry.ensures) c.put_entry-end.ensures)
    _
    c.separator-ate.ensures
    1
    (omega arith)
    true
    c.if-ate.true

pub returns-in-Refused : goal.returns-in-Refused
returns-in-Refused c =
    let args = c.args in
    frame_refused args.text.now args.t _ _ (rw c.in-Refused.is at c.keyframe_entry.ensures)

pub returns-else-ate : goal.returns-else-ate
returns-else-ate c =
    let args = c.args in
    frame_step
    args.text.now
    args.t
    args.sheet.now
    _ _ _ _
    (frame_went (rw c.in-Is.is at c.keyframe_entry.ensures) c.put_entry-end.ensures)
    _
    c.separator-ate.ensures
    0
    (omega arith)
    false
    c.if-ate.false
