use mathlib.Core.Path.{◌≡◌}
use Prim.Native.Nat.{ℕ, ◌+◌, ◌*◌, ◌-◌, ◌^◌, ◌<◌, ◌≤◌}
use lib.ListN.{length, get_or}
use Rattle.limbs.specs.LimbMeans.{up_to}
use Rattle.limbs.proofs.take.Given as goal

abbrev pub invariant-loop-i : goal.invariant-loop-i
invariant-loop-i l =
    (l.i ≤ length l.initial.a) × (l.borrow ≤ 1) × (length l.a ≡ length l.initial.a)
    × (up_to l.i l.a + up_to l.i l.b ≡ up_to l.i l.initial.a + l.borrow * 4294967296 ^ l.i)
    × ((k : ℕ) → l.i ≤ k → get_or l.a k 0 ≡ get_or l.initial.a k 0) × (up_to l.i l.a < 4294967296 ^ l.i)

abbrev pub decreases-loop-i : goal.decreases-loop-i
decreases-loop-i l = length l.initial.a - l.i
