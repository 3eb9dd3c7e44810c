-- `token::past_suffix` meets its contract.
use native.Mathlib.Omega.{arith}
use Rattle.token.specs.Token.{past_suffix}
use Rattle.token.proofs.past_suffix.Goals as goal

pub returns-then-suffix : goal.returns-then-suffix
unfolding past_suffix
returns-then-suffix c = rw c.if-suffix.true (omega arith)

pub returns : goal.returns
unfolding past_suffix
returns c = rw c.if-suffix.false
