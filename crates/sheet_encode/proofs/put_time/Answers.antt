-- `sheet_encode::put_time` meets its contract: one case a position.
use Rattle.sheet_encode.proofs.put_time.Goals as goal

pub returns-then-percent : goal.returns-then-percent
returns-then-percent c = rw c.if-percent.true c.put_case_float.ensures

pub returns : goal.returns
returns c = rw c.if-percent.false c.put_case_float-2.ensures
