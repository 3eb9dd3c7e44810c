-- `words::packing::least` meets its contract.
use Rattle.words.proofs.KeyLaws.{one_above}
use Rattle.words.proofs.packing.least.Goals as goal

pub returns : goal.returns
returns c = rw (one_above c.args.n c.requires)
