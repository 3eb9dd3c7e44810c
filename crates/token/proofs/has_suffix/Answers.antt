-- `token::has_suffix` meets its contract.
use Rattle.token.specs.Token.{suffix_at}
use Rattle.token.proofs.has_suffix.Goals as goal

pub returns : goal.returns
unfolding suffix_at
returns c = rw c.byte_at.ensures
