-- `read_values::parse_float_in_parens` meets its contract.
use Rattle.read_values.proofs.ValueLaws.{inside_missing, inside_refused, inside_took}
use Rattle.grammar.specs.Values.{parse_float, parse_float_in_parens}
use Rattle.read_values.proofs.parse_float_in_parens.Goals as goal

pub returns-in-Missing : goal.returns-in-Missing
unfolding parse_float_in_parens
returns-in-Missing c =
    let args = c.args in
    inside_missing args.text.now 40 parse_float args.c _ (rw c.in-Missing.is at c.mark.ensures)

pub returns-in-Refused : goal.returns-in-Refused
unfolding parse_float_in_parens
returns-in-Refused c =
    let args = c.args in
    inside_refused args.text.now 40 parse_float args.c _ (rw c.in-Is.is at c.mark.ensures) _ _
    (rw c.in-Refused.is at c.parse_float.ensures)

pub returns-in-Is-parse_float : goal.returns-in-Is-parse_float
unfolding parse_float_in_parens
returns-in-Is-parse_float c =
    let args = c.args in (
      inside_took args.text.now 40 parse_float args.c _ (rw c.in-Is.is at c.mark.ensures) _ _ _
          (rw c.in-Is-parse_float.is at c.parse_float.ensures).0 c.leave_group.ensures,
      (rw c.in-Is-parse_float.is at c.parse_float.ensures).1,
    )
