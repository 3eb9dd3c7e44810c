-- `read_color::color_step` meets its contract.
use Rattle.read_node.proofs.StepLaws.{no_float, a_float, no_easing, an_easing_lem, step_refused, a_case, last_row}
use Rattle.read_values.proofs.NameLaws.{choice-below}
use mathlib.Core.Path.{refl}
use native.Mathlib.Omega.{arith}
use Rattle.text.specs.Bytes.{same}
use Rattle.text.specs.Words.{find}
use Rattle.token.specs.Names.{is_keyword}
use Rattle.words.specs.ListMeans.{list_of}
use Rattle.read_cursor.specs.Means.{no_keywords}
use Rattle.error.specs.declared.Refusal.TheVariants.{Malformed}
use Rattle.grammar.specs.Rule.{choice}
use Rattle.grammar.specs.Fields.{a_number}
use Rattle.grammar.specs.Grammar.{color_fields, space}
use Rattle.grammar.specs.Grammar.{space_names}
use Rattle.read_color.proofs.color_step.Goals as goal

pub choice-requires : goal.choice-requires
unfolding list_of no_keywords is_keyword find same
choice-requires c = (c.requires, refl)

pub overflow_cast-space : goal.overflow_cast-space
unfolding list_of
overflow_cast-space c =
    let b = choice-below _ _ _ _ _ _ (rw c.in-Is-choice.is at c.choice.ensures) in
    omega (arith, b)

pub returns-in-Refused : goal.returns-in-Refused
unfolding color_fields
returns-in-Refused c = no_float 0 "duration" (λ l. c.in-0.is) refl (rw c.in-Refused.is at c.parse_float.ensures)

pub returns-in-Is : goal.returns-in-Is
unfolding color_fields same
returns-in-Is c =
    a_float 0 "duration" (λ l. c.in-0.is) 0 _ refl refl refl
    (rw c.in-Is.is at c.parse_float.ensures)

pub returns-in-Refused-choice : goal.returns-in-Refused-choice
unfolding color_fields list_of space
returns-in-Refused-choice c =
    step_refused 1 "space" (λ l. c.in-1.is) (choice Malformed space_names) a_number refl
    (rw c.in-Refused-choice.is at c.choice.ensures)

pub returns-in-Is-choice : goal.returns-in-Is-choice
unfolding color_fields same list_of space
returns-in-Is-choice c =
    a_case 1 "space" (λ l. c.in-1.is) (choice Malformed space_names) 1 _ refl refl refl
    (rw c.in-Is-choice.is at c.choice.ensures)

pub returns-in-Refused-parse_easing : goal.returns-in-Refused-parse_easing
unfolding color_fields
returns-in-Refused-parse_easing c =
    no_easing 2 "easing" (λ l. last_row 2 _ c.in_default.in_default-own.rest l) refl
    (rw c.in-Refused-parse_easing.is at c.parse_easing.ensures)

pub returns-in-Is-parse_easing : goal.returns-in-Is-parse_easing
unfolding color_fields same
returns-in-Is-parse_easing c =
    an_easing_lem 2 "easing" (λ l. last_row 2 _ c.in_default.in_default-own.rest l) 2 _ refl refl refl
    (rw c.in-Is-parse_easing.is at c.parse_easing.ensures)
