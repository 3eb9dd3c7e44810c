-- `token::power_from` meets its contract.
use mathlib.Core.Path.{sym}
use Rattle.token.proofs.LexLaws.{from_is}
use Rattle.token.proofs.power_from.Goals as goal

pub returns-then-b : goal.returns-then-b
returns-then-b c = sym (from_is _ _ _ c.byte_at-b.ensures _ c.if-b.true)

pub returns : goal.returns
returns c = sym (from_is _ _ _ c.byte_at-b.ensures _ c.if-b.false)
