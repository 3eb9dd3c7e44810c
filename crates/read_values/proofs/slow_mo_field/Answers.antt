-- `read_values::slow_mo_field` meets its contract.
use Rattle.read_values.specs.Means.{SlowMoHeld}
use Rattle.read_values.proofs.RowLaws.{by_row, no_number, refused_row, row_at, second_row, took_number}
use mathlib.Core.Path.{refl}
use Rattle.read_values.proofs.CurveLaws.{slow_power, slow_ratio}
use Rattle.grammar.specs.Values.{slow_mo_fields}
use Rattle.read_values.proofs.slow_mo_field.Goals as goal

pub returns-in-Refused : goal.returns-in-Refused
unfolding slow_mo_fields
returns-in-Refused c row e =
    let args = c.args in
    refused_row args.text.now args.c _ row _ _ (row_at slow_mo_fields args.i 0 row _ c.if-i-eq0.true refl e)
    (no_number args.text.now args.c _ _ (rw c.in-Refused.is at c.parse_float.ensures))

pub returns-in-Is : goal.returns-in-Is
unfolding slow_mo_fields
returns-in-Is c row e =
    let args = c.args in
    let t = rw c.in-Is.is at c.parse_float.ensures in
    by_row SlowMoHeld
    args.text.now
    args.c
    _
    args.f
    _ _ row _
    (row_at slow_mo_fields args.i 0 row _ c.if-i-eq0.true refl e)
    (took_number args.text.now args.c _ _ t.0)
    (slow_ratio args.f _ t.1)

pub returns-in-Refused-parse_float : goal.returns-in-Refused-parse_float
unfolding slow_mo_fields
returns-in-Refused-parse_float c row e =
    let args = c.args in
    refused_row args.text.now args.c _ row _ _ (second_row _ _ row args.i c.if-i-eq0.false e)
    (no_number args.text.now args.c _ _ (rw c.in-Refused-parse_float.is at c.parse_float-2.ensures))

pub returns-in-Is-parse_float : goal.returns-in-Is-parse_float
unfolding slow_mo_fields
returns-in-Is-parse_float c row e =
    let args = c.args in
    let t = rw c.in-Is-parse_float.is at c.parse_float-2.ensures in
    by_row SlowMoHeld
    args.text.now
    args.c
    _
    args.f
    _ _ row _
    (second_row _ _ row args.i c.if-i-eq0.false e)
    (took_number args.text.now args.c _ _ t.0)
    (slow_power args.f _ t.1)
