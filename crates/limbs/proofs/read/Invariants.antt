use mathlib.Core.Path.{◌≡◌}
use Prim.Native.Nat.{◌+◌, ◌*◌, ◌^◌, ◌≤◌}
use lib.ListN.{length}
use Rattle.text.specs.Bytes.{decimal, run, is_digit}
use Rattle.limbs.specs.LimbMeans.{val}
use Rattle.limbs.proofs.read.Given as goal

abbrev pub invariant-loop-rest : goal.invariant-loop-rest
invariant-loop-rest l =
    (length l.rest ≤ run is_digit l.rest) × (length l.a ≡ length l.initial.a) × (decimal (val l.a) l.rest ≡ decimal (val l.initial.a) l.digits)
    × ((val l.a + 1) * 10 ^ length l.rest ≤ 4294967296 ^ length l.initial.a)

abbrev pub decreases-loop-rest : goal.decreases-loop-rest
decreases-loop-rest l = length l.rest
