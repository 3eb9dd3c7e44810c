-- `read_values::comma_floats` meets its contract.
use Rattle.grammar.specs.Values.{comma_floats, two_floats}
use Rattle.read_values.proofs.ValueLaws.{pair-behind}
use Rattle.read_values.proofs.comma_floats.Goals as goal

pub returns-in-Missing : goal.returns-in-Missing
unfolding comma_floats
returns-in-Missing c = let h = rw c.in-Missing.is at c.mark.ensures in rw h

pub returns-in-Is : goal.returns-in-Is
unfolding comma_floats
returns-in-Is c =
    let args = c.args in
    pair-behind args.text.now 44 two_floats args.c _ c.two_floats.result (rw c.in-Is.is at c.mark.ensures)
    c.two_floats.ensures
