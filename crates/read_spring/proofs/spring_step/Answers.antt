-- `read_spring::spring_step` meets its contract.
use Rattle.read_node.proofs.StepLaws.{no_float, a_float, step_refused, a_case, no_value, a_value_lem}
use Rattle.read_values.proofs.NameLaws.{choice-below}
use mathlib.Core.Path.{refl}
use native.Mathlib.Omega.{arith}
use Rattle.text.specs.Bytes.{same}
use Rattle.text.specs.Words.{find}
use Rattle.token.specs.Names.{is_keyword}
use Rattle.words.specs.ListMeans.{list_of}
use Rattle.read_cursor.specs.Means.{no_keywords}
use Rattle.error.specs.declared.Refusal.TheVariants.{Malformed, UnknownSpringPreset}
use Rattle.grammar.specs.Rule.{choice}
use Rattle.grammar.specs.Fields.{a_number}
use Rattle.grammar.specs.Grammar.{spring_fields, spring_preset, parse_spring_preset, integrator}
use Rattle.grammar.specs.Grammar.{preset_names, integrator_names}
use Rattle.read_spring.proofs.spring_step.Goals as goal

pub choice-requires : goal.choice-requires
unfolding list_of no_keywords is_keyword find same
choice-requires c = (c.requires, refl)

pub overflow_cast-preset : goal.overflow_cast-preset
unfolding list_of
overflow_cast-preset c =
    let b = choice-below _ _ _ _ _ _ (rw c.in-Is.is at c.choice.ensures) in
    omega (arith, b)

pub choice-requires-in-6 : goal.choice-requires-in-6
unfolding list_of no_keywords is_keyword find same
choice-requires-in-6 c = (c.requires, refl)

pub overflow_cast-integrator : goal.overflow_cast-integrator
unfolding list_of
overflow_cast-integrator c =
    let b = choice-below _ _ _ _ _ _ (rw c.in-Is-choice.is at c.choice-in-6.ensures) in
    omega (arith, b)

pub returns-in-Refused : goal.returns-in-Refused
unfolding spring_fields list_of spring_preset parse_spring_preset
returns-in-Refused c =
    step_refused 0 "preset"
    (λ l. c.in-0.is)
    (choice UnknownSpringPreset preset_names)
    a_number refl
    (rw c.in-Refused.is at c.choice.ensures)

pub returns-in-Is : goal.returns-in-Is
unfolding spring_fields same list_of spring_preset parse_spring_preset
returns-in-Is c =
    a_case 0 "preset" (λ l. c.in-0.is) (choice UnknownSpringPreset preset_names) 0
    _ refl refl refl (rw c.in-Is.is at c.choice.ensures)

pub returns-in-Refused-parse_float : goal.returns-in-Refused-parse_float
unfolding spring_fields
returns-in-Refused-parse_float c = no_float 1 "stiffness" (λ l. c.in-1.is) refl (rw c.in-Refused-parse_float.is at c.parse_float.ensures)

pub returns-in-Is-parse_float : goal.returns-in-Is-parse_float
unfolding spring_fields same
returns-in-Is-parse_float c =
    a_float 1 "stiffness" (λ l. c.in-1.is) 1 _ refl refl refl
    (rw c.in-Is-parse_float.is at c.parse_float.ensures)

pub returns-in-Refused-parse_float-2 : goal.returns-in-Refused-parse_float-2
unfolding spring_fields
returns-in-Refused-parse_float-2 c = no_float 2 "damping" (λ l. c.in-2.is) refl (rw c.in-Refused-parse_float-2.is at c.parse_float-in-2.ensures)

pub returns-in-Is-parse_float-2 : goal.returns-in-Is-parse_float-2
unfolding spring_fields same
returns-in-Is-parse_float-2 c =
    a_float 2 "damping" (λ l. c.in-2.is) 2 _ refl refl refl
    (rw c.in-Is-parse_float-2.is at c.parse_float-in-2.ensures)

pub returns-in-Refused-parse_float-3 : goal.returns-in-Refused-parse_float-3
unfolding spring_fields
returns-in-Refused-parse_float-3 c = no_float 3 "mass" (λ l. c.in-3.is) refl (rw c.in-Refused-parse_float-3.is at c.parse_float-in-3.ensures)

pub returns-in-Is-parse_float-3 : goal.returns-in-Is-parse_float-3
unfolding spring_fields same
returns-in-Is-parse_float-3 c =
    a_float 3 "mass" (λ l. c.in-3.is) 3 _ refl refl refl
    (rw c.in-Is-parse_float-3.is at c.parse_float-in-3.ensures)

pub returns-in-Refused-past_value : goal.returns-in-Refused-past_value
unfolding spring_fields
returns-in-Refused-past_value c = no_value 4 "velocity" (λ l. c.in-4.is) refl (rw c.in-Refused-past_value.is at c.past_value.ensures)

pub returns-in-Is-past_value : goal.returns-in-Is-past_value
unfolding spring_fields same
returns-in-Is-past_value c =
    let t = rw c.in-Is-past_value.is at c.past_value.ensures in
    a_value_lem 4 "velocity" (λ l. c.in-4.is) 4 t.0 refl refl refl c.requires t.1 t.2

pub returns-in-Refused-parse_float-4 : goal.returns-in-Refused-parse_float-4
unfolding spring_fields
returns-in-Refused-parse_float-4 c = no_float 5 "epsilon" (λ l. c.in-5.is) refl (rw c.in-Refused-parse_float-4.is at c.parse_float-in-5.ensures)

pub returns-in-Is-parse_float-4 : goal.returns-in-Is-parse_float-4
unfolding spring_fields same
returns-in-Is-parse_float-4 c =
    a_float 5 "epsilon" (λ l. c.in-5.is) 5 _ refl refl refl
    (rw c.in-Is-parse_float-4.is at c.parse_float-in-5.ensures)

pub returns-in-Refused-choice : goal.returns-in-Refused-choice
unfolding spring_fields list_of integrator
returns-in-Refused-choice c =
    step_refused 6 "integrator" (λ l. c.in-6.is) (choice Malformed integrator_names) a_number refl
    (rw c.in-Refused-choice.is at c.choice-in-6.ensures)

pub returns-in-Is-choice : goal.returns-in-Is-choice
unfolding spring_fields same list_of integrator
returns-in-Is-choice c =
    a_case 6 "integrator" (λ l. c.in-6.is) (choice Malformed integrator_names) 6 _ refl refl refl
    (rw c.in-Is-choice.is at c.choice-in-6.ensures)
