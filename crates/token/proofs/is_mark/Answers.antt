-- `token::is_mark` meets its contract.
use Rattle.text.specs.Bytes.{bytes}
use Rattle.text.proofs.ByteLaws.{tests, tests_are}
use Rattle.token.proofs.is_mark.Goals as goal

pub returns : goal.returns
unfolding tests
returns c = tests_are 58 (bytes ";,=>.+-%([{)]}") c.args.b
