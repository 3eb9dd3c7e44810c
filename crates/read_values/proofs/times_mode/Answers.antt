-- `read_values::times_mode` meets its contract.
use Rattle.grammar.specs.Values.{times_mode}
use Rattle.read_values.proofs.times_mode.Goals as goal

pub returns-in-Refused : goal.returns-in-Refused
unfolding times_mode
returns-in-Refused c = let h = rw c.in-Refused.is at c.uint_in_parens.ensures in rw h

pub returns-in-Is : goal.returns-in-Is
unfolding times_mode
returns-in-Is c =
    let t = rw c.in-Is.is at c.uint_in_parens.ensures in
    record { is = rw t.is; low = t.low; ready = t.ready }
