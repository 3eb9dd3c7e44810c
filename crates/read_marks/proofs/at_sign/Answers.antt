-- `read_marks::at_sign` meets its contract.
use Rattle.read_marks.proofs.MarkLaws.{other_sign, plus_sign}
use Rattle.read_marks.proofs.at_sign.Goals as goal

pub returns-then-plus : goal.returns-then-plus
returns-then-plus c = plus_sign _ _ _ (rw c.if-plus.true at c.eat-plus.ensures)

pub returns : goal.returns
returns c = other_sign _ _ _ (rw c.if-plus.false at c.eat-plus.ensures) _ _ c.eat-minus.ensures
