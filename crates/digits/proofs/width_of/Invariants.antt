use Prim.Native.Nat.{◌-◌}
use Rattle.digits.proofs.WidthLaws.{Widening}
use Rattle.digits.proofs.width_of.Given as goal

abbrev pub invariant-loop-limit : goal.invariant-loop-limit
invariant-loop-limit l = Widening l.n l.places l.digits l.limit

abbrev pub decreases-loop-limit : goal.decreases-loop-limit
decreases-loop-limit l = 20 - l.digits
