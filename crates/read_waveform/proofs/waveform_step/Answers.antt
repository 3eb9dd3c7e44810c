-- `read_waveform::waveform_step` meets its contract.
use Rattle.read_node.proofs.StepLaws.{no_float, a_float, no_whole, a_whole, last_row}
use mathlib.Core.Path.{refl}
use Rattle.text.specs.Bytes.{same}
use Rattle.grammar.specs.Grammar.{waveform_fields}
use Rattle.read_waveform.proofs.waveform_step.Goals as goal

pub returns-in-Refused : goal.returns-in-Refused
unfolding waveform_fields
returns-in-Refused c = no_float 0 "frequency" (λ l. c.in-0.is) refl (rw c.in-Refused.is at c.parse_float.ensures)

pub returns-in-Is : goal.returns-in-Is
unfolding waveform_fields same
returns-in-Is c =
    a_float 0 "frequency" (λ l. c.in-0.is) 0 _ refl refl refl
    (rw c.in-Is.is at c.parse_float.ensures)

pub returns-in-Refused-parse_float : goal.returns-in-Refused-parse_float
unfolding waveform_fields
returns-in-Refused-parse_float c = no_float 1 "amplitude" (λ l. c.in-1.is) refl (rw c.in-Refused-parse_float.is at c.parse_float-in-1.ensures)

pub returns-in-Is-parse_float : goal.returns-in-Is-parse_float
unfolding waveform_fields same
returns-in-Is-parse_float c =
    a_float 1 "amplitude" (λ l. c.in-1.is) 1 _ refl refl refl
    (rw c.in-Is-parse_float.is at c.parse_float-in-1.ensures)

pub returns-in-Refused-parse_float-2 : goal.returns-in-Refused-parse_float-2
unfolding waveform_fields
returns-in-Refused-parse_float-2 c = no_float 2 "phase" (λ l. c.in-2.is) refl (rw c.in-Refused-parse_float-2.is at c.parse_float-in-2.ensures)

pub returns-in-Is-parse_float-2 : goal.returns-in-Is-parse_float-2
unfolding waveform_fields same
returns-in-Is-parse_float-2 c =
    a_float 2 "phase" (λ l. c.in-2.is) 2 _ refl refl refl
    (rw c.in-Is-parse_float-2.is at c.parse_float-in-2.ensures)

pub returns-in-Refused-parse_float-3 : goal.returns-in-Refused-parse_float-3
unfolding waveform_fields
returns-in-Refused-parse_float-3 c = no_float 3 "duty_cycle" (λ l. c.in-3.is) refl (rw c.in-Refused-parse_float-3.is at c.parse_float-in-3.ensures)

pub returns-in-Is-parse_float-3 : goal.returns-in-Is-parse_float-3
unfolding waveform_fields same
returns-in-Is-parse_float-3 c =
    a_float 3 "duty_cycle" (λ l. c.in-3.is) 3 _ refl refl refl
    (rw c.in-Is-parse_float-3.is at c.parse_float-in-3.ensures)

pub returns-in-Refused-parse_uint : goal.returns-in-Refused-parse_uint
unfolding waveform_fields
returns-in-Refused-parse_uint c = no_whole 4 "seed" (λ l. c.in-4.is) refl (rw c.in-Refused-parse_uint.is at c.parse_uint.ensures)

pub returns-in-Is-parse_uint : goal.returns-in-Is-parse_uint
unfolding waveform_fields same
returns-in-Is-parse_uint c = a_whole 4 "seed" (λ l. c.in-4.is) 4 _ refl refl refl (rw c.in-Is-parse_uint.is at c.parse_uint.ensures)

pub returns-in-Refused-parse_float-4 : goal.returns-in-Refused-parse_float-4
unfolding waveform_fields
returns-in-Refused-parse_float-4 c = no_float 5 "smoothness" (λ l. c.in-5.is) refl (rw c.in-Refused-parse_float-4.is at c.parse_float-in-5.ensures)

pub returns-in-Is-parse_float-4 : goal.returns-in-Is-parse_float-4
unfolding waveform_fields same
returns-in-Is-parse_float-4 c =
    a_float 5 "smoothness" (λ l. c.in-5.is) 5 _ refl refl refl
    (rw c.in-Is-parse_float-4.is at c.parse_float-in-5.ensures)

pub returns-in-Refused-parse_float-5 : goal.returns-in-Refused-parse_float-5
unfolding waveform_fields
returns-in-Refused-parse_float-5 c =
    no_float 6 "duration" (λ l. last_row 6 _ c.in_default.in_default-own.rest l) refl
    (rw c.in-Refused-parse_float-5.is at c.parse_float-in_default.ensures)

pub returns-in-Is-parse_float-5 : goal.returns-in-Is-parse_float-5
unfolding waveform_fields same
returns-in-Is-parse_float-5 c =
    a_float 6 "duration" (λ l. last_row 6 _ c.in_default.in_default-own.rest l) 6 _ refl refl refl
    (rw c.in-Is-parse_float-5.is at c.parse_float-in_default.ensures)
