-- `read_values::slow_mo_curve` meets its contract.
use Rattle.grammar.specs.Values.{slow_mo_curve, slow_mo_fields}
use Rattle.read_values.proofs.CurveLaws.{float_or, plain_seven, plain-two, seven_tenths, two_wholes}
use Rattle.read_values.proofs.ValueLaws.{inside_any, inside_missing, inside_refused}
use Rattle.grammar.specs.Fields.{pairs}
use Rattle.read_values.proofs.slow_mo_curve.Goals as goal

pub returns-in-Missing : goal.returns-in-Missing
unfolding slow_mo_curve
returns-in-Missing c =
    let args = c.args in
    let h = inside_missing args.text.now 40 (pairs slow_mo_fields) args.c _ (rw c.in-Missing.is at c.mark.ensures)
    in
    rw h

pub returns-in-Refused : goal.returns-in-Refused
unfolding slow_mo_curve
returns-in-Refused c =
    let args = c.args in
    let h = inside_refused args.text.now 40 (pairs slow_mo_fields) args.c _ (rw c.in-Is.is at c.mark.ensures) _ _
    (rw c.in-Refused.is at c.slow_mo_fields.ensures)
    in
    rw h

pub returns-in-Is-slow_mo_fields : goal.returns-in-Is-slow_mo_fields
unfolding slow_mo_curve
returns-in-Is-slow_mo_fields c =
    let args = c.args in
    let f = rw c.in-Is-slow_mo_fields.is at c.slow_mo_fields.ensures in
    let t = inside_any args.text.now 40 (pairs slow_mo_fields) args.c _ (rw c.in-Is.is at c.mark.ensures) _ _ _
    f.1 c.leave_group-next.ensures
    in
    let s = float_or c.float_or-linear_ratio.ensures f.2.linear_ratio seven_tenths in
    let p = float_or c.float_or-power.ensures f.2.power two_wholes in (
      record { is = rw (t.is, s, p); low = t.low; ready = t.ready },
      (
        c.float_or-linear_ratio.ensures.plain f.2.plain_ratio plain_seven,
        c.float_or-power.ensures.plain f.2.plain_power plain-two,
      ),
    )
