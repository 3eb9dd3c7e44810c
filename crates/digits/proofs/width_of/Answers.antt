-- `digits::width_of` meets its contract. The loop's invariant: `limit` is 10 to the power of `digits`, and no fewer digits are enough.
use native.Mathlib.Omega.{arith}
use Rattle.digits.proofs.WidthLaws.{wider, high}
use Rattle.digits.proofs.width_of.Goals as goal

pub overflow_mul-limit-in-loop-limit : goal.overflow_mul-limit-in-loop-limit
overflow_mul-limit-in-loop-limit c = omega (arith, high (wider c.loop-limit.invariant c.requires.0 c.loop-limit-test.true))
