-- `lookup::lookup` meets its contract.
use Rattle.lookup.proofs.lookup.Goals as goal

pub returns : goal.returns
returns c = rw c.find.ensures.value at c.lend.ensures
