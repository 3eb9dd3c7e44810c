-- `read_arrays::read_value` meets its contract: behind a `[` an array, else a scalar.
use Rattle.read_arrays.proofs.ArrayLaws.{array_held, mark_unseen, scalar_held, scalar_refused, value_refused}
use Rattle.read_arrays.proofs.read_value.Goals as goal

pub returns-in-Refused : goal.returns-in-Refused
returns-in-Refused c = value_refused (rw c.in-Is.is at c.mark.ensures) (rw c.in-Refused.is at c.array_value.ensures)

pub returns-in-Is-array_value : goal.returns-in-Is-array_value
returns-in-Is-array_value c = array_held (rw c.in-Is.is at c.mark.ensures) (rw c.in-Is-array_value.is at c.array_value.ensures)

pub returns-in-Refused-parse_float : goal.returns-in-Refused-parse_float
returns-in-Refused-parse_float c =
    let args = c.args in
    scalar_refused
    args.text.now
    args.c
    (mark_unseen args.text.now args.c 91 _ (rw c.in-Missing.is at c.mark.ensures))
    (rw c.in-Refused-parse_float.is at c.parse_float.ensures)

pub returns-in-Is-parse_float : goal.returns-in-Is-parse_float
returns-in-Is-parse_float c =
    let args = c.args in
    let t = rw c.in-Is-parse_float.is at c.parse_float.ensures in
    scalar_held args.text.now args.c
    (mark_unseen args.text.now args.c 91 _ (rw c.in-Missing.is at c.mark.ensures)) _ _ t.0 t.1
