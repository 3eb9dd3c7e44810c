use Rattle.read_tokens.proofs.CountLaws.{readable_short}
use Rattle.read_tokens.proofs.new.Goals as goal

pub first-cursor-requires : goal.first-cursor-requires
first-cursor-requires c = rw c.readable-part.ensures (readable_short c.args.text.now)
