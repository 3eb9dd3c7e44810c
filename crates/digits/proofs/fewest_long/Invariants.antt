use Rattle.digits.proofs.FractionLaws.{Hunting}
use Rattle.digits.proofs.fewest_long.Given as goal

abbrev pub invariant-loop-places : goal.invariant-loop-places
invariant-loop-places l = Hunting l.bits l.low l.high l.f l.g l.i l.j l.places
