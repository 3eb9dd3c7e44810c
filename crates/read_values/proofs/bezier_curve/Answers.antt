-- `read_values::bezier_curve` meets its contract.
use Rattle.grammar.specs.Values.{bezier_curve, four_floats}
use Rattle.read_values.proofs.ValueLaws.{inside_missing, inside_refused, inside_took}
use Rattle.read_values.proofs.bezier_curve.Goals as goal

pub returns-in-Missing : goal.returns-in-Missing
unfolding bezier_curve
returns-in-Missing c =
    let args = c.args in
    inside_missing args.text.now 40 four_floats args.c _ (rw c.in-Missing.is at c.mark.ensures)

pub returns-in-Refused : goal.returns-in-Refused
unfolding bezier_curve
returns-in-Refused c =
    let args = c.args in
    inside_refused args.text.now 40 four_floats args.c _ (rw c.in-Is.is at c.mark.ensures) _ _
    (rw c.in-Refused.is at c.four_floats.ensures)

pub returns-in-Is-four_floats : goal.returns-in-Is-four_floats
unfolding bezier_curve
returns-in-Is-four_floats c =
    let args = c.args in (
      inside_took args.text.now 40 four_floats args.c _ (rw c.in-Is.is at c.mark.ensures) _ _ _
          (rw c.in-Is-four_floats.is at c.four_floats.ensures).0 c.leave_group.ensures,
      (rw c.in-Is-four_floats.is at c.four_floats.ensures).1,
    )
