-- `read_tokens::readable` meets its contract.
use mathlib.Core.Path.{sym}
use Rattle.read_tokens.proofs.CountLaws.{readable-empty, readable-whole}
use Rattle.read_tokens.proofs.readable.Goals as goal

pub returns-then-text-gt-TEXT_LIMIT : goal.returns-then-text-gt-TEXT_LIMIT
returns-then-text-gt-TEXT_LIMIT c = sym (readable-empty _ c.if-text-gt-TEXT_LIMIT.true)

pub returns : goal.returns
returns c = sym (readable-whole _ c.if-text-gt-TEXT_LIMIT.false)
