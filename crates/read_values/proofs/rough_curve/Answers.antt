-- `read_values::rough_curve` meets its contract.
use Rattle.read_values.proofs.CurveLaws.{a_half, float_or, plain_half}
use Rattle.grammar.specs.Values.{rough_curve, rough_fields}
use Rattle.read_values.proofs.ValueLaws.{inside_any, inside_missing, inside_refused}
use Rattle.grammar.specs.Fields.{pairs}
use Rattle.read_values.proofs.rough_curve.Goals as goal

pub returns-in-Missing : goal.returns-in-Missing
unfolding rough_curve
returns-in-Missing c =
    let args = c.args in
    let h = inside_missing args.text.now 40 (pairs rough_fields) args.c _ (rw c.in-Missing.is at c.mark.ensures) in
    rw h

pub returns-in-Refused : goal.returns-in-Refused
unfolding rough_curve
returns-in-Refused c =
    let args = c.args in
    let h = inside_refused args.text.now 40 (pairs rough_fields) args.c _ (rw c.in-Is.is at c.mark.ensures) _ _
    (rw c.in-Refused.is at c.rough_fields.ensures)
    in
    rw h

pub returns-in-Is-rough_fields : goal.returns-in-Is-rough_fields
unfolding rough_curve
returns-in-Is-rough_fields c =
    let args = c.args in
    let f = rw c.in-Is-rough_fields.is at c.rough_fields.ensures in
    let t = inside_any args.text.now 40 (pairs rough_fields) args.c _ (rw c.in-Is.is at c.mark.ensures) _ _ _
    f.1 c.leave_group-next.ensures
    in
    let s = float_or c.float_or-strength.ensures f.2.strength a_half in (
      record { is = rw (t.is, s, c.word_or-points.ensures, f.2.points); low = t.low; ready = t.ready },
      c.float_or-strength.ensures.plain f.2.plain plain_half,
    )
