-- `sheet_encode::put_opt_damping` meets its contract.
use Rattle.sheet_encode.proofs.OverLaws.{writes_then}
use Rattle.sheet_encode.proofs.put_opt_damping.Goals as goal

pub returns-in-Some : goal.returns-in-Some
returns-in-Some c = rw c.in-Some.is (writes_then c.put_byte-next.ensures c.put_damping.ensures)
