use native.Mathlib.Omega.{arith}
use Rattle.read_cursor.specs.WordMeans.{rounded_of, tallied}
use Rattle.read_cursor.proofs.count.Goals as goal

pub overflow_add-result : goal.overflow_add-result
unfolding rounded_of
overflow_add-result c = omega (arith, c.requires)

pub returns-then-rounded : goal.returns-then-rounded
unfolding tallied
returns-then-rounded c = rw c.if-rounded.true

pub returns : goal.returns
unfolding tallied
returns c = rw c.if-rounded.false
