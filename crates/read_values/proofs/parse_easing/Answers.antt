-- `read_values::parse_easing` meets its contract.
use Rattle.read_values.proofs.EasingLaws.{easing-behind}
use Rattle.grammar.specs.Values.{parse_easing}
use mathlib.Core.Path.{sym, ◌∙◌}
use Rattle.read_values.proofs.parse_easing.Goals as goal

pub returns-then-sees : goal.returns-then-sees
unfolding parse_easing
returns-then-sees c =
    rw
    (sym (c.sees.ensures c.args.text.now c.requires) ∙ c.if-sees.true, c.requires.head.place, c.place.ensures)

pub returns-in-Missing : goal.returns-in-Missing
unfolding parse_easing
returns-in-Missing c =
    let h = rw c.in-Missing.is at c.word.ensures in
    rw (sym (c.sees.ensures c.args.text.now c.requires) ∙ c.if-sees.false, h)

pub returns-in-Is : goal.returns-in-Is
returns-in-Is c =
    let w = rw c.in-Is.is at c.word.ensures in
    easing-behind
    c.args.text.now
    c.args.c
    _ _
    c.after_word.result
    (sym (c.sees.ensures c.args.text.now c.requires) ∙ c.if-sees.false)
    w.0
    c.after_word.ensures
