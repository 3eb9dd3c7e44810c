-- `read_keyframes::keyframe_entry` meets its contract: a key, a value, an easing.
use Rattle.read_keyframes.proofs.EntryLaws.{entry_went, frame_no_easing, frame_no_key, frame_no_value}
use Rattle.read_keyframes.proofs.keyframe_entry.Goals as goal

pub returns-in-Refused : goal.returns-in-Refused
returns-in-Refused c =
    let args = c.args in
    frame_no_key args.text.now args.c (rw c.in-Refused.is at c.key_mark.ensures)

pub returns-in-Refused-read_value : goal.returns-in-Refused-read_value
returns-in-Refused-read_value c =
    frame_no_value (rw c.in-Is.is at c.key_mark.ensures)
    (rw c.in-Refused-read_value.is at c.read_value.ensures)

pub returns-in-Refused-keyframe_easing : goal.returns-in-Refused-keyframe_easing
returns-in-Refused-keyframe_easing c =
    frame_no_easing
    (rw c.in-Is.is at c.key_mark.ensures)
    c.args.out
    (rw c.in-Is-read_value.is at c.read_value.ensures)
    (rw c.in-Refused-keyframe_easing.is at c.keyframe_easing.ensures)

pub returns-in-Is-keyframe_easing : goal.returns-in-Is-keyframe_easing
returns-in-Is-keyframe_easing c =
    let e = rw c.in-Is-keyframe_easing.is at c.keyframe_easing.ensures in
    rw c.entry_of.ensures
    (entry_went (rw c.in-Is.is at c.key_mark.ensures) c.args.out
    (rw c.in-Is-read_value.is at c.read_value.ensures) e.0 e.1)
