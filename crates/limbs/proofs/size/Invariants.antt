use mathlib.Core.Path.{◌≡◌}
use lib.ListN.{length}
use Rattle.limbs.specs.LimbMeans.{up_to}
use Rattle.limbs.proofs.size.Given as goal

abbrev pub invariant-loop-i : goal.invariant-loop-i
invariant-loop-i l = up_to (length l.a) l.a ≡ up_to l.i l.a
