-- `line::put_whole` meets its contract; the loop keeps that what is written from here on is written from the start.
use Rattle.std.proofs.Common.{arith}
use Rattle.line.proofs.PutLaws.{writing_start, writing-next, writing_done}
use Rattle.line.proofs.put_whole.Goals as goal

pub loop-i-init : goal.loop-i-init
loop-i-init c = writing_start _ _ _

pub loop-i-preserved : goal.loop-i-preserved
loop-i-preserved c =
    let h = c.loop-i-test.true in
    writing-next _ _ _ _ _ h (omega (arith, h, c.requires)) c.digit.ensures c.digit-in-loop-i.ensures c.loop-i.invariant

pub returns : goal.returns
returns c = writing_done _ _ _ _ _ c.loop-i-test.false (omega arith) c.loop-i.invariant
