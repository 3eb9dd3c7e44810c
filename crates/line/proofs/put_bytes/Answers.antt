-- `line::put_bytes` meets its contract: past the end nothing is written, and where there is room all of it.
use Rattle.std.proofs.Common.{arith}
use Rattle.text.proofs.WriteLaws.{puts_full}
use Rattle.line.proofs.put_bytes.Goals as goal

pub returns-then-out-at : goal.returns-then-out-at
returns-then-out-at c = puts_full _ _ _ (omega (arith, c.if-out-at.true))
