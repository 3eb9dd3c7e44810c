-- `read_draw::draw_step` meets its contract.
use Rattle.read_node.proofs.StepLaws.{no_float, a_float, no_easing, an_easing_lem, last_row}
use mathlib.Core.Path.{refl}
use Rattle.text.specs.Bytes.{same}
use Rattle.grammar.specs.Grammar.{draw_fields}
use Rattle.read_draw.proofs.draw_step.Goals as goal

pub returns-in-Refused : goal.returns-in-Refused
unfolding draw_fields
returns-in-Refused c = no_float 0 "duration" (λ l. c.in-0.is) refl (rw c.in-Refused.is at c.parse_float.ensures)

pub returns-in-Is : goal.returns-in-Is
unfolding draw_fields same
returns-in-Is c =
    a_float 0 "duration" (λ l. c.in-0.is) 0 _ refl refl refl
    (rw c.in-Is.is at c.parse_float.ensures)

pub returns-in-Refused-parse_easing : goal.returns-in-Refused-parse_easing
unfolding draw_fields
returns-in-Refused-parse_easing c =
    no_easing 1 "easing" (λ l. last_row 1 _ c.in_default.in_default-own.rest l) refl
    (rw c.in-Refused-parse_easing.is at c.parse_easing.ensures)

pub returns-in-Is-parse_easing : goal.returns-in-Is-parse_easing
unfolding draw_fields same
returns-in-Is-parse_easing c =
    an_easing_lem 1 "easing" (λ l. last_row 1 _ c.in_default.in_default-own.rest l) 1 _ refl refl refl
    (rw c.in-Is-parse_easing.is at c.parse_easing.ensures)
