-- `read_keyframes::track_step` meets its contract.
use Rattle.read_keyframes.proofs.TrackLaws.{step_end, step-frame, step_loop}
use mathlib.Core.Path.{sym, ◌∙◌}
use Rattle.read_keyframes.proofs.track_step.Goals as goal

pub returns-then-ends : goal.returns-then-ends
returns-then-ends c =
    let args = c.args in
    step_end args.text.now args.sheet.now args.t c.requires.ready
    (sym (c.ends.ensures args.text.now c.requires.ready) ∙ c.if-ends.true)

pub returns-then-sees_word : goal.returns-then-sees_word
returns-then-sees_word c =
    let args = c.args in
    step_loop
    args.text.now
    args.sheet.now
    args.sheet.now
    args.t
    (sym (c.ends.ensures args.text.now c.requires.ready) ∙ c.if-ends.false)
    c.track_loop.result
    (sym c.sees_word.ensures ∙ c.if-sees_word.true)
    (c.track_loop.ensures args.sheet.now)

pub returns : goal.returns
returns c =
    let args = c.args in
    step-frame
    args.text.now
    args.sheet.now
    c.track_frame.new.sheet
    args.t
    (sym (c.ends.ensures args.text.now c.requires.ready) ∙ c.if-ends.false)
    c.track_frame.result
    (sym c.sees_word.ensures ∙ c.if-sees_word.false)
    c.track_frame.ensures
