-- `line::put_line` meets its contract: the parts of a line, one behind the other.
use Rattle.lining.proofs.LineLaws.{line_parts}
use Rattle.text.proofs.WriteLaws.{puts_then}
use Rattle.line.proofs.put_line.Goals as goal

pub returns : goal.returns
returns c =
    rw (line_parts c.args.bytes.now, ← c.check_byte.ensures)
    (puts_then c.put_byte-high.ensures
    (puts_then c.put_byte-low.ensures
    (puts_then c.put_bytes-body.ensures (puts_then c.put_byte-end.ensures c.put.ensures))))
