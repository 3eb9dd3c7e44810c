-- `read_tokens::is_blank` meets its contract.
use Rattle.read_tokens.proofs.CountLaws.{blank-long, blank-counted}
use Rattle.read_tokens.proofs.is_blank.Goals as goal

pub returns-then-text-gt-TEXT_LIMIT : goal.returns-then-text-gt-TEXT_LIMIT
returns-then-text-gt-TEXT_LIMIT c = blank-long _ c.if-text-gt-TEXT_LIMIT.true

pub returns : goal.returns
returns c = blank-counted _ _ c.if-text-gt-TEXT_LIMIT.false c.count_tokens.ensures
