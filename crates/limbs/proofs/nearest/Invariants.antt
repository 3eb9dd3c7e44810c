use mathlib.Core.Path.{◌≡◌}
use Prim.Native.Nat.{◌+◌, ◌*◌, ◌^◌, ◌<◌, ◌≤◌}
use lib.ListN.{length}
use Rattle.limbs.specs.LimbMeans.{val}
use Rattle.limbs.proofs.nearest.Given as goal

abbrev pub invariant-loop-k : goal.invariant-loop-k
invariant-loop-k l = ((l.q * (val l.b * 2) + val l.a) * 2 ^ l.k ≡ val l.initial.a * 2 ^ l.initial.k) × (val l.a < val l.b * 2) × (l.q < 16777216) × (l.k ≤ 300) × (length l.a ≡ length l.initial.a)

abbrev pub decreases-loop-k : goal.decreases-loop-k
decreases-loop-k l = l.k
