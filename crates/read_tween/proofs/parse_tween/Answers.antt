-- `read_tween::parse_tween` meets its contract.
use Rattle.read_tween.proofs.TweenLaws.{tween_no_ends, tween_no_fields, tween_untimed, tween_went}
use Rattle.read_tween.proofs.parse_tween.Goals as goal

pub returns-in_default : goal.returns-in_default
returns-in_default c =
    rw c.place.ensures
    (tween_untimed (rw c.in-Is.is at c.parse_ends.ensures)
    (rw c.in-Is-tween_fields.is at c.tween_fields.ensures) c.in_default.is)

pub returns-in-Refused : goal.returns-in-Refused
returns-in-Refused c = tween_no_ends (rw c.in-Refused.is at c.parse_ends.ensures)

pub returns-in-Refused-tween_fields : goal.returns-in-Refused-tween_fields
returns-in-Refused-tween_fields c =
    tween_no_fields (rw c.in-Is.is at c.parse_ends.ensures)
    (rw c.in-Refused-tween_fields.is at c.tween_fields.ensures)

pub returns-in-Some : goal.returns-in-Some
returns-in-Some c =
    tween_went
    (rw c.in-Is.is at c.parse_ends.ensures)
    (rw c.in-Is-tween_fields.is at c.tween_fields.ensures)
    c.in-Some.is
    c.put_tween_fields.ensures
