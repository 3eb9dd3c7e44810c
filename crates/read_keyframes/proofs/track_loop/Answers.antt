-- `read_keyframes::track_loop` meets its contract.
use Rattle.read_keyframes.proofs.TrackLaws.{loop_no_colon, loop_refused, loop-step}
use Rattle.read_keyframes.proofs.track_loop.Goals as goal

pub returns-in-Missing : goal.returns-in-Missing
returns-in-Missing c b =
    let args = c.args in
    loop_no_colon args.text.now b args.t _ c.advance-behind.ensures _ (rw c.in-Missing.is at c.mark.ensures)

pub returns-in-Refused : goal.returns-in-Refused
returns-in-Refused c b =
    let args = c.args in
    loop_refused args.text.now b args.t _ c.advance-behind.ensures _ (rw c.in-Is.is at c.mark.ensures) _ _
    (rw c.in-Refused.is at c.parse_loop_mode.ensures)

pub returns-in-Is-parse_loop_mode : goal.returns-in-Is-parse_loop_mode
returns-in-Is-parse_loop_mode c b =
    loop-step
    c.args.text.now
    b
    c.args.t
    _
    c.advance-behind.ensures
    _
    (rw c.in-Is.is at c.mark.ensures)
    c.requires
    _ _ _ _
    (rw c.in-Is-parse_loop_mode.is at c.parse_loop_mode.ensures)
    c.eat-ate.ensures
