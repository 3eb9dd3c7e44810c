-- `read_values::uint_in_parens` meets its contract.
use Rattle.read_values.proofs.ValueLaws.{inside_missing, inside_refused, inside_took}
use Rattle.grammar.specs.Values.{parse_uint, parse_uint_in_parens}
use Rattle.read_values.proofs.uint_in_parens.Goals as goal

pub returns-in-Missing : goal.returns-in-Missing
unfolding parse_uint_in_parens
returns-in-Missing c =
    let args = c.args in
    inside_missing args.text.now 40 parse_uint args.c _ (rw c.in-Missing.is at c.mark.ensures)

pub returns-in-Refused : goal.returns-in-Refused
unfolding parse_uint_in_parens
returns-in-Refused c =
    let args = c.args in
    inside_refused args.text.now 40 parse_uint args.c _ (rw c.in-Is.is at c.mark.ensures) _ _
    (rw c.in-Refused.is at c.parse_uint.ensures)

pub returns-in-Is-parse_uint : goal.returns-in-Is-parse_uint
unfolding parse_uint_in_parens
returns-in-Is-parse_uint c =
    let args = c.args in
    inside_took args.text.now 40 parse_uint args.c _ (rw c.in-Is.is at c.mark.ensures) _ _ _
    (rw c.in-Is-parse_uint.is at c.parse_uint.ensures) c.leave_group.ensures
