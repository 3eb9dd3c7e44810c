-- `read_values::four_floats` meets its contract.
use native.Mathlib.Omega.{arith}
use Rattle.grammar.specs.Values.{four_floats}
use Rattle.read_values.proofs.four_floats.Goals as goal

pub returns-in-Refused : goal.returns-in-Refused
unfolding four_floats
returns-in-Refused c = let h = rw c.in-Refused.is at c.two_floats.ensures in rw h

pub returns-in-Refused-comma_floats : goal.returns-in-Refused-comma_floats
unfolding four_floats
returns-in-Refused-comma_floats c =
    let t = (rw c.in-Is.is at c.two_floats.ensures).took in
    let h = rw c.in-Refused-comma_floats.is at c.comma_floats.ensures in
    rw (t.is, h)

pub returns-in-Is-comma_floats : goal.returns-in-Is-comma_floats
unfolding four_floats
returns-in-Is-comma_floats c =
    let t = rw c.in-Is.is at c.two_floats.ensures in
    let u = rw c.in-Is-comma_floats.is at c.comma_floats.ensures in (
      record { is = rw (t.took.is, u.took.is); low = omega (arith, t.took.low, u.took.low); ready = u.took.ready },
      (t.first, t.second, u.first, u.second),
    )
