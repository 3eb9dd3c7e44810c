-- `parser::judge` meets its contract.
use Rattle.parser.proofs.ReadLaws.{allowed}
use Rattle.parser.proofs.judge.Goals as goal

pub returns-then-whole : goal.returns-then-whole
returns-then-whole c =
    allowed c.args.text.now c.args.scratch.now c.requires.1 _ (c.requires.2 c.if-whole.true)
    c.clear.ensures
