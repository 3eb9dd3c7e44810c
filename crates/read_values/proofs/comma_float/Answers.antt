-- `read_values::comma_float` meets its contract.
use Rattle.grammar.specs.Values.{comma_float, parse_float}
use Rattle.read_values.proofs.ValueLaws.{float_behind}
use Rattle.read_values.proofs.comma_float.Goals as goal

pub returns-in-Missing : goal.returns-in-Missing
unfolding comma_float
returns-in-Missing c = let h = rw c.in-Missing.is at c.mark.ensures in rw h

pub returns-in-Is : goal.returns-in-Is
unfolding comma_float
returns-in-Is c =
    let args = c.args in
    float_behind args.text.now 44 parse_float args.c _ c.parse_float.result (rw c.in-Is.is at c.mark.ensures)
    c.parse_float.ensures
