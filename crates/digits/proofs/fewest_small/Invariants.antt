use Rattle.digits.proofs.SearchLaws.{Going}
use Rattle.digits.proofs.fewest_small.Given as goal

abbrev pub invariant-loop-places : goal.invariant-loop-places
invariant-loop-places l = Going l.bits l.low l.high l.s l.places
