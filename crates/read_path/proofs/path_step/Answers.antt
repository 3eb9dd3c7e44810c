-- `read_path::path_step` meets its contract.
use Rattle.read_node.proofs.StepLaws.{no_float, a_float, no_easing, an_easing_lem, no_loop, a_loop}
use Rattle.read_node.proofs.StepLaws.{no_truth, a_truth_lem, row_refused, a_range_lem, last_row}
use mathlib.Core.Path.{refl}
use Rattle.text.specs.Bytes.{same}
use Rattle.grammar.specs.Grammar.{path_fields}
use Rattle.read_path.proofs.path_step.Goals as goal

pub returns-in-Refused : goal.returns-in-Refused
unfolding path_fields
returns-in-Refused c = no_float 0 "duration" (λ l. c.in-0.is) refl (rw c.in-Refused.is at c.parse_float.ensures)

pub returns-in-Is : goal.returns-in-Is
unfolding path_fields same
returns-in-Is c =
    a_float 0 "duration" (λ l. c.in-0.is) 0 _ refl refl refl
    (rw c.in-Is.is at c.parse_float.ensures)

pub returns-in-Refused-parse_easing : goal.returns-in-Refused-parse_easing
unfolding path_fields
returns-in-Refused-parse_easing c = no_easing 1 "easing" (λ l. c.in-1.is) refl (rw c.in-Refused-parse_easing.is at c.parse_easing.ensures)

pub returns-in-Is-parse_easing : goal.returns-in-Is-parse_easing
unfolding path_fields same
returns-in-Is-parse_easing c =
    an_easing_lem 1 "easing" (λ l. c.in-1.is) 1 _ refl refl refl
    (rw c.in-Is-parse_easing.is at c.parse_easing.ensures)

pub returns-in-Missing : goal.returns-in-Missing
unfolding path_fields
returns-in-Missing c = no_truth 2 "auto_rotate" (λ l. c.in-2.is) refl (rw c.in-Missing.is at c.truth.ensures)

pub returns-in-Is-truth : goal.returns-in-Is-truth
unfolding path_fields same
returns-in-Is-truth c = a_truth_lem 2 "auto_rotate" (λ l. c.in-2.is) 2 _ refl refl refl (rw c.in-Is-truth.is at c.truth.ensures)

pub returns-in-Refused-offset_range : goal.returns-in-Refused-offset_range
unfolding path_fields
returns-in-Refused-offset_range c = row_refused 3 "offset" (λ l. c.in-3.is) refl (rw c.in-Refused-offset_range.is at c.offset_range.ensures)

pub returns-in-Is-offset_range : goal.returns-in-Is-offset_range
unfolding path_fields same
returns-in-Is-offset_range c =
    let t = rw c.in-Is-offset_range.is at c.offset_range.ensures in
    a_range_lem 3 "offset" (λ l. c.in-3.is) 3 _ _ refl refl refl t.0 t.1 t.2

pub returns-in-Refused-parse_loop_mode : goal.returns-in-Refused-parse_loop_mode
unfolding path_fields
returns-in-Refused-parse_loop_mode c =
    no_loop 4 "loop" (λ l. last_row 4 _ c.in_default.in_default-own.rest l) refl
    (rw c.in-Refused-parse_loop_mode.is at c.parse_loop_mode.ensures)

pub returns-in-Is-parse_loop_mode : goal.returns-in-Is-parse_loop_mode
unfolding path_fields same
returns-in-Is-parse_loop_mode c =
    a_loop 4 "loop" (λ l. last_row 4 _ c.in_default.in_default-own.rest l) 4 _ refl refl refl
    (rw c.in-Is-parse_loop_mode.is at c.parse_loop_mode.ensures)
