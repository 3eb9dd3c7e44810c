-- `read_values::rough_field` meets its contract.
use Rattle.read_values.specs.Means.{RoughHeld}
use Rattle.read_values.proofs.RowLaws.{by_row, no_count, no_number, refused_row, row_at, second_row, took_count, took_number}
use mathlib.Core.Path.{refl}
use Rattle.read_values.proofs.CurveLaws.{rough_points, rough_strength}
use Rattle.grammar.specs.Values.{rough_fields}
use Rattle.read_values.proofs.rough_field.Goals as goal

pub returns-in-Refused : goal.returns-in-Refused
unfolding rough_fields
returns-in-Refused c row e =
    let args = c.args in
    refused_row args.text.now args.c _ row _ _ (row_at rough_fields args.i 0 row _ c.if-i-eq0.true refl e)
    (no_number args.text.now args.c _ _ (rw c.in-Refused.is at c.parse_float.ensures))

pub returns-in-Is : goal.returns-in-Is
unfolding rough_fields
returns-in-Is c row e =
    let args = c.args in
    let t = rw c.in-Is.is at c.parse_float.ensures in
    by_row RoughHeld
    args.text.now
    args.c
    _
    args.f
    _ _ row _
    (row_at rough_fields args.i 0 row _ c.if-i-eq0.true refl e)
    (took_number args.text.now args.c _ _ t.0)
    (rough_strength args.f _ t.1)

pub returns-in-Refused-parse_uint : goal.returns-in-Refused-parse_uint
unfolding rough_fields
returns-in-Refused-parse_uint c row e =
    let args = c.args in
    refused_row args.text.now args.c _ row _ _ (second_row _ _ row args.i c.if-i-eq0.false e)
    (no_count args.text.now args.c _ _ (rw c.in-Refused-parse_uint.is at c.parse_uint.ensures))

pub returns-in-Is-parse_uint : goal.returns-in-Is-parse_uint
unfolding rough_fields
returns-in-Is-parse_uint c row e =
    let args = c.args in
    let t = rw c.in-Is-parse_uint.is at c.parse_uint.ensures in
    by_row RoughHeld
    args.text.now
    args.c
    _
    args.f
    _ _ row _
    (second_row _ _ row args.i c.if-i-eq0.false e)
    (took_count args.text.now args.c _ _ t)
    (rough_points args.f _)
