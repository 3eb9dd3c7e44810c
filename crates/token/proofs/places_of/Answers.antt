-- `token::places_of` meets its contract.
use native.Mathlib.Omega.{arith}
use Rattle.token.specs.Token.{places_of}
use Rattle.token.proofs.places_of.Goals as goal

pub returns-then-w-end : goal.returns-then-w-end
unfolding places_of
returns-then-w-end c = rw c.if-point.true (omega arith)

pub returns-then-point : goal.returns-then-point
unfolding places_of
returns-then-point c = rw c.if-point.true (omega arith)

pub returns : goal.returns
unfolding places_of
returns c = rw c.if-point.false
