use mathlib.Core.Path.{◌≡◌}
use Prim.Native.Nat.{ℕ, ◌+◌, ◌*◌, ◌^◌, ◌≤◌}
use lib.ListN.{get_or}
use Rattle.limbs.specs.LimbMeans.{up_to}
use Rattle.limbs.proofs.muladd.Given as goal

abbrev pub invariant-loop-limb : goal.invariant-loop-limb
invariant-loop-limb l =
    (l.carry ≤ l.m) × (up_to l.limb-index l.a + l.carry * 4294967296 ^ l.limb-index ≡ up_to l.limb-index l.initial.a * l.m + l.initial.carry)
    × ((k : ℕ) → l.limb-index ≤ k → get_or l.a k 0 ≡ get_or l.initial.a k 0)
