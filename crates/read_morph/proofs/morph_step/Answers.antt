-- `read_morph::morph_step` meets its contract.
use Rattle.read_node.proofs.StepLaws.{no_float, a_float, no_easing, an_easing_lem, no_whole, a_whole, last_row}
use mathlib.Core.Path.{refl}
use Rattle.text.specs.Bytes.{same}
use Rattle.grammar.specs.Grammar.{morph_fields}
use Rattle.read_morph.proofs.morph_step.Goals as goal

pub returns-in-Refused : goal.returns-in-Refused
unfolding morph_fields
returns-in-Refused c = no_whole 0 "samples" (λ l. c.in-0.is) refl (rw c.in-Refused.is at c.parse_uint.ensures)

pub returns-in-Is : goal.returns-in-Is
unfolding morph_fields same
returns-in-Is c =
    a_whole 0 "samples" (λ l. c.in-0.is) 0 _ refl refl refl
    (rw c.in-Is.is at c.parse_uint.ensures)

pub returns-in-Refused-parse_float : goal.returns-in-Refused-parse_float
unfolding morph_fields
returns-in-Refused-parse_float c = no_float 1 "duration" (λ l. c.in-1.is) refl (rw c.in-Refused-parse_float.is at c.parse_float.ensures)

pub returns-in-Is-parse_float : goal.returns-in-Is-parse_float
unfolding morph_fields same
returns-in-Is-parse_float c =
    a_float 1 "duration" (λ l. c.in-1.is) 1 _ refl refl refl
    (rw c.in-Is-parse_float.is at c.parse_float.ensures)

pub returns-in-Refused-parse_easing : goal.returns-in-Refused-parse_easing
unfolding morph_fields
returns-in-Refused-parse_easing c =
    no_easing 2 "easing" (λ l. last_row 2 _ c.in_default.in_default-own.rest l) refl
    (rw c.in-Refused-parse_easing.is at c.parse_easing.ensures)

pub returns-in-Is-parse_easing : goal.returns-in-Is-parse_easing
unfolding morph_fields same
returns-in-Is-parse_easing c =
    an_easing_lem 2 "easing" (λ l. last_row 2 _ c.in_default.in_default-own.rest l) 2 _ refl refl refl
    (rw c.in-Is-parse_easing.is at c.parse_easing.ensures)
