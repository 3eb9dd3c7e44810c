use mathlib.Core.Path.{◌≡◌}
use Prim.Native.Nat.{◌*◌, ◌^◌}
use lib.ListN.{length}
use Rattle.limbs.specs.LimbMeans.{up_to}
use Rattle.digits.proofs.shift_up.Given as goal

abbrev pub invariant-loop-i : goal.invariant-loop-i
invariant-loop-i l = (length l.f ≡ length l.initial.f) × (up_to 5 l.f ≡ up_to 5 l.initial.f * 2 ^ l._i)
