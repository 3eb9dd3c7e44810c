use mathlib.Core.Path.{◌≡◌}
use mathlib.Core.Logic.{◌⊎◌}
use Prim.Native.Nat.{◌*◌, ◌-◌, ◌^◌, ◌<◌, ◌≤◌}
use lib.ListN.{length}
use Rattle.limbs.specs.LimbMeans.{val}
use Rattle.limbs.proofs.raise.Given as goal

abbrev pub invariant-loop-k : goal.invariant-loop-k
invariant-loop-k l =
    (150 ≤ l.k) × (l.k ≤ 300) × (length l.b ≡ length l.initial.b) × (l.initial.k ≤ l.k) × (val l.b ≡ val l.initial.b * 2 ^ (l.k - l.initial.k)) × ((l.k ≡ 150) ⊎ (val l.b ≤ val l.a * 2))
    × (val l.b * 2 < 4294967296 ^ length l.a)

abbrev pub decreases-loop-k : goal.decreases-loop-k
decreases-loop-k l = 300 - l.k
