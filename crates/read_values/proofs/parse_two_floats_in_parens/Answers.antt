-- `read_values::parse_two_floats_in_parens` meets its contract.
use Rattle.read_values.proofs.ValueLaws.{inside_missing, inside_refused, inside_took}
use Rattle.grammar.specs.Values.{parse_two_floats_in_parens, two_floats}
use Rattle.read_values.proofs.parse_two_floats_in_parens.Goals as goal

pub returns-in-Missing : goal.returns-in-Missing
unfolding parse_two_floats_in_parens
returns-in-Missing c =
    let args = c.args in
    inside_missing args.text.now 40 two_floats args.c _ (rw c.in-Missing.is at c.mark.ensures)

pub returns-in-Refused : goal.returns-in-Refused
unfolding parse_two_floats_in_parens
returns-in-Refused c =
    let args = c.args in
    inside_refused args.text.now 40 two_floats args.c _ (rw c.in-Is.is at c.mark.ensures) _ _
    (rw c.in-Refused.is at c.two_floats.ensures)

pub returns-in-Is-two_floats : goal.returns-in-Is-two_floats
unfolding parse_two_floats_in_parens
returns-in-Is-two_floats c =
    let args = c.args in
    record {
      took = inside_took args.text.now 40 two_floats args.c _ (rw c.in-Is.is at c.mark.ensures) _ _ _
          (rw c.in-Is-two_floats.is at c.two_floats.ensures).took c.leave_group.ensures;
      first = (rw c.in-Is-two_floats.is at c.two_floats.ensures).first;
      second = (rw c.in-Is-two_floats.is at c.two_floats.ensures).second;
    }
