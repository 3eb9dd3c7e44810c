use mathlib.Core.Path.{◌≡◌}
use Prim.Native.Nat.{◌*◌, ◌^◌}
use lib.ListN.{length}
use Rattle.limbs.specs.LimbMeans.{val}
use Rattle.limbs.proofs.scale.Given as goal

abbrev pub invariant-loop-round : goal.invariant-loop-round
invariant-loop-round l = (length l.a ≡ length l.initial.a) × (val l.a ≡ val l.initial.a * l.base ^ (l._round * l.most))
