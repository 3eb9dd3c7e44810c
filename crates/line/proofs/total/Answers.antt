-- `line::total` meets its contract; the loop keeps that the total so far and what is left sum to the whole, modulo 256.
use Rattle.std.proofs.Common.{arith, rules}
use Rattle.lining.proofs.LineLaws.{total-at, total_end}
use Rattle.line.proofs.total.Goals as goal

pub loop-b-preserved : goal.loop-b-preserved
loop-b-preserved c = (
  search rules,
  omega (arith, c.loop-b.invariant.1, total-at c.args.part.now c.loop-b.b-index (omega arith)),
)

pub returns : goal.returns
returns c = omega (arith, c.loop-b.invariant, total_end c.args.part.now c.loop-b.b-index c.loop-b-test.false)
