-- `read_path::offset_range` meets its contract.
use Rattle.read_path.proofs.OffsetLaws.{no_start, no_points, no_end, range_taken}
use Rattle.read_path.proofs.offset_range.Goals as goal

pub returns-in-Refused : goal.returns-in-Refused
returns-in-Refused c =
    let args = c.args in
    no_start args.text.now args.c (rw c.in-Refused.is at c.parse_float.ensures)

pub returns-in-Missing : goal.returns-in-Missing
returns-in-Missing c =
    no_points (rw c.in-Is.is at c.parse_float.ensures).0
    (rw c.in-Missing.is at c.both.ensures)

pub returns-in-Refused-parse_float : goal.returns-in-Refused-parse_float
returns-in-Refused-parse_float c =
    no_end (rw c.in-Is.is at c.parse_float.ensures).0
    (rw c.in-Is-both.is at c.both.ensures) (rw c.in-Refused-parse_float.is at c.parse_float-in-Is-both.ensures)

pub returns-in-Is-parse_float : goal.returns-in-Is-parse_float
returns-in-Is-parse_float c =
    let t = rw c.in-Is.is at c.parse_float.ensures in
    let v = rw c.in-Is-parse_float.is at c.parse_float-in-Is-both.ensures in
    (range_taken t.0 (rw c.in-Is-both.is at c.both.ensures) v.0, t.1, v.1)
