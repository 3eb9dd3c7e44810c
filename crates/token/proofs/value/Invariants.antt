use Prim.Native.Nat.{◌+◌, ◌-◌, ◌^◌, ◌<◌}
use mathlib.Core.Path.{◌≡◌}
use lib.ListN.{length, drop}
use Rattle.text.specs.Bytes.{decimal}
use Rattle.token.proofs.value.Given as goal

abbrev pub invariant-loop-b : goal.invariant-loop-b
invariant-loop-b l = (decimal l.v (drop l.b-index l.digits) ≡ decimal l.seed l.digits) × (l.v < 10 ^ (19 - length l.digits + l.b-index))
