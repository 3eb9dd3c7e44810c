use Rattle.totals.proofs.MeanLaws.{Euclid}
use Rattle.totals.proofs.divisor.Given as goal

abbrev pub invariant-loop-b : goal.invariant-loop-b
invariant-loop-b l = Euclid l.fn.a l.fn.b l.a l.b

abbrev pub decreases-loop-b : goal.decreases-loop-b
decreases-loop-b l = l.b
