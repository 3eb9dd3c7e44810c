-- `read_values::steps_curve` meets its contract.
use Rattle.grammar.specs.Values.{steps_curve}
use Rattle.read_values.proofs.steps_curve.Goals as goal

pub returns-in-Refused : goal.returns-in-Refused
unfolding steps_curve
returns-in-Refused c = let h = rw c.in-Refused.is at c.uint_in_parens.ensures in rw h

pub returns-in-Is : goal.returns-in-Is
unfolding steps_curve
returns-in-Is c =
    let t = rw c.in-Is.is at c.uint_in_parens.ensures in
    (record { is = rw t.is; low = t.low; ready = t.ready }, tt)
