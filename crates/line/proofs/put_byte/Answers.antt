-- `line::put_byte` meets its contract: two digits, one behind the other.
use Rattle.lining.specs.Line.{hex}
use Rattle.text.proofs.WriteLaws.{puts_then}
use Rattle.line.proofs.put_byte.Goals as goal

pub returns : goal.returns
unfolding hex
returns c = rw (c.digit.ensures, c.digit-2.ensures) at (puts_then c.put-next.ensures c.put.ensures)
