use mathlib.Core.Path.{◌≡◌}
use Prim.Native.Nat.{◌^◌, ◌<◌}
use lib.ListN.{drop}
use Rattle.text.specs.Bytes.{decimal}
use Rattle.limbs.proofs.few.Given as goal

abbrev pub invariant-loop-b : goal.invariant-loop-b
invariant-loop-b l = (decimal l.v (drop l.b-index l.digits) ≡ decimal 0 l.digits) × (l.v < 10 ^ l.b-index)
