-- `token::past_fraction` meets its contract.
use native.Mathlib.Numerals.{add-one}
use native.Mathlib.Omega.{arith}
use Rattle.token.specs.Token.{past_fraction}
use Rattle.token.proofs.past_fraction.Goals as goal

pub overflow_cast-result : goal.overflow_cast-result
unfolding past_fraction
overflow_cast-result c =
    let h = rw c.if-point.true at c.requires.1 in
    omega (arith, rw add-one at c.run_end.ensures, h)

pub returns-then-point : goal.returns-then-point
unfolding past_fraction
returns-then-point c = rw c.if-point.true (rw add-one at c.run_end.ensures)

pub returns : goal.returns
unfolding past_fraction
returns c = rw c.if-point.false
