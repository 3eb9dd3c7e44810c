-- `read_values::two_floats` meets its contract.
use native.Mathlib.Omega.{arith}
use Rattle.grammar.specs.Values.{two_floats}
use Rattle.read_values.proofs.two_floats.Goals as goal

pub returns-in-Refused : goal.returns-in-Refused
unfolding two_floats
returns-in-Refused c = let h = rw c.in-Refused.is at c.parse_float.ensures in rw h

pub returns-in-Refused-comma_float : goal.returns-in-Refused-comma_float
unfolding two_floats
returns-in-Refused-comma_float c =
    let t = (rw c.in-Is.is at c.parse_float.ensures).0 in
    let h = rw c.in-Refused-comma_float.is at c.comma_float.ensures in
    rw (t.is, h)

pub returns-in-Is-comma_float : goal.returns-in-Is-comma_float
unfolding two_floats
returns-in-Is-comma_float c =
    let t = rw c.in-Is.is at c.parse_float.ensures in
    let u = rw c.in-Is-comma_float.is at c.comma_float.ensures in
    record {
      took = record { is = rw (t.0.is, u.0.is); low = omega (arith, t.0.low, u.0.low); ready = u.0.ready };
      first = t.1;
      second = u.1;
    }
