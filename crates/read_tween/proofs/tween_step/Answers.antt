-- `read_tween::tween_step` meets its contract.
use Rattle.read_node.proofs.StepLaws.{last_row}
use Rattle.read_node.proofs.StepLaws.{no_float, a_float, no_easing, an_easing_lem, no_loop, a_loop, no_whole, a_whole, no_truth, ever-truth}
use mathlib.Core.Path.{refl}
use Rattle.grammar.specs.Grammar.{tween_fields}
use Rattle.text.specs.Bytes.{same}
use Rattle.read_tween.proofs.tween_step.Goals as goal

pub returns-in-Refused : goal.returns-in-Refused
unfolding tween_fields
returns-in-Refused c = no_float 0 "duration" (λ l. c.in-0.is) refl (rw c.in-Refused.is at c.parse_float.ensures)

pub returns-in-Is : goal.returns-in-Is
unfolding tween_fields same
returns-in-Is c =
    a_float 0 "duration" (λ l. c.in-0.is) 0 _ refl refl refl
    (rw c.in-Is.is at c.parse_float.ensures)

pub returns-in-Refused-parse_easing : goal.returns-in-Refused-parse_easing
unfolding tween_fields
returns-in-Refused-parse_easing c = no_easing 1 "easing" (λ l. c.in-1.is) refl (rw c.in-Refused-parse_easing.is at c.parse_easing.ensures)

pub returns-in-Is-parse_easing : goal.returns-in-Is-parse_easing
unfolding tween_fields same
returns-in-Is-parse_easing c =
    an_easing_lem 1 "easing" (λ l. c.in-1.is) 1 _ refl refl refl
    (rw c.in-Is-parse_easing.is at c.parse_easing.ensures)

pub returns-in-Refused-parse_float : goal.returns-in-Refused-parse_float
unfolding tween_fields
returns-in-Refused-parse_float c = no_float 2 "delay" (λ l. c.in-2.is) refl (rw c.in-Refused-parse_float.is at c.parse_float-in-2.ensures)

pub returns-in-Is-parse_float : goal.returns-in-Is-parse_float
unfolding tween_fields same
returns-in-Is-parse_float c =
    a_float 2 "delay" (λ l. c.in-2.is) 2 _ refl refl refl
    (rw c.in-Is-parse_float.is at c.parse_float-in-2.ensures)

pub returns-in-Refused-parse_float-2 : goal.returns-in-Refused-parse_float-2
unfolding tween_fields
returns-in-Refused-parse_float-2 c = no_float 3 "time_scale" (λ l. c.in-3.is) refl (rw c.in-Refused-parse_float-2.is at c.parse_float-in-3.ensures)

pub returns-in-Is-parse_float-2 : goal.returns-in-Is-parse_float-2
unfolding tween_fields same
returns-in-Is-parse_float-2 c =
    a_float 3 "time_scale" (λ l. c.in-3.is) 3 _ refl refl refl
    (rw c.in-Is-parse_float-2.is at c.parse_float-in-3.ensures)

pub returns-in-Refused-parse_loop_mode : goal.returns-in-Refused-parse_loop_mode
unfolding tween_fields
returns-in-Refused-parse_loop_mode c = no_loop 4 "loop" (λ l. c.in-4.is) refl (rw c.in-Refused-parse_loop_mode.is at c.parse_loop_mode.ensures)

pub returns-in-Is-parse_loop_mode : goal.returns-in-Is-parse_loop_mode
unfolding tween_fields same
returns-in-Is-parse_loop_mode c =
    a_loop 4 "loop" (λ l. c.in-4.is) 4 _ refl refl refl
    (rw c.in-Is-parse_loop_mode.is at c.parse_loop_mode.ensures)

pub returns-in-Refused-parse_float-3 : goal.returns-in-Refused-parse_float-3
unfolding tween_fields
returns-in-Refused-parse_float-3 c = no_float 5 "snap" (λ l. c.in-5.is) refl (rw c.in-Refused-parse_float-3.is at c.parse_float-in-5.ensures)

pub returns-in-Is-parse_float-3 : goal.returns-in-Is-parse_float-3
unfolding tween_fields same
returns-in-Is-parse_float-3 c =
    a_float 5 "snap" (λ l. c.in-5.is) 5 _ refl refl refl
    (rw c.in-Is-parse_float-3.is at c.parse_float-in-5.ensures)

pub returns-in-Refused-parse_uint : goal.returns-in-Refused-parse_uint
unfolding tween_fields
returns-in-Refused-parse_uint c = no_whole 6 "round" (λ l. c.in-6.is) refl (rw c.in-Refused-parse_uint.is at c.parse_uint.ensures)

pub returns-in-Is-parse_uint : goal.returns-in-Is-parse_uint
unfolding tween_fields same
returns-in-Is-parse_uint c = a_whole 6 "round" (λ l. c.in-6.is) 6 _ refl refl refl (rw c.in-Is-parse_uint.is at c.parse_uint.ensures)

pub returns-in-Missing : goal.returns-in-Missing
unfolding tween_fields
returns-in-Missing c = no_truth 7 "reverse" (λ l. last_row 7 _ c.in_default.in_default-own.rest l) refl (rw c.in-Missing.is at c.truth.ensures)

pub returns-in-Is-truth : goal.returns-in-Is-truth
unfolding tween_fields same
returns-in-Is-truth c =
    rw c.either-reverse.ensures
    (ever-truth 7 "reverse" (λ l. last_row 7 _ c.in_default.in_default-own.rest l) 7 _ refl refl refl
    (rw c.in-Is-truth.is at c.truth.ensures))
