use Prim.Native.Nat.{◌-◌}
use Rattle.digits.proofs.PercentLaws.{Seeking}
use Rattle.digits.proofs.least_float.Given as goal

abbrev pub invariant-loop-lo : goal.invariant-loop-lo
invariant-loop-lo l = Seeking l.bits l.lo l.hi

abbrev pub decreases-loop-lo : goal.decreases-loop-lo
decreases-loop-lo l = l.hi - l.lo
