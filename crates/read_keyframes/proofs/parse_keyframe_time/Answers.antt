use Rattle.read_keyframes.proofs.TimeLaws.{no_time, percent_suffix, took_time}
use mathlib.Core.Path.{sym, ◌∙◌}
use Rattle.read_keyframes.proofs.parse_keyframe_time.Goals as goal

pub returns-then-all : goal.returns-then-all
returns-then-all c =
    let args = c.args in
    rw c.place.ensures
    (percent_suffix args.text.now args.c _ _ _ _ (rw c.in-Is.is at c.number.ensures) _
    c.percent_sign-sign.ensures (sym c.all.ensures ∙ c.if-all.true))

pub returns-in-Missing : goal.returns-in-Missing
returns-in-Missing c =
    let args = c.args in
    no_time args.text.now args.c _ (rw c.in-Missing.is at c.number.ensures)

pub returns-else-all : goal.returns-else-all
returns-else-all c =
    took_time
    c.args.text.now
    c.args.c
    _ _ _ _
    (rw c.in-Is.is at c.number.ensures)
    _
    c.percent_sign-sign.ensures
    (sym c.all.ensures ∙ c.if-all.false)
    c.requires
    c.time_of-x.ensures.value
    c.time_of-x.ensures.rounded
    c.count.ensures
