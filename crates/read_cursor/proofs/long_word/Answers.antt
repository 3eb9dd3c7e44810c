use Rattle.read_cursor.proofs.WordLaws.{long_head}
use Rattle.read_cursor.proofs.long_word.Goals as goal

pub returns : goal.returns
returns c = λ k e. long_head c.args.notes c.args.at c.args.kind k c.args.n c.if-n-eq0.false e
