-- `digits::least_float` meets its contract: a search by halves, since a percent's f32 rises with the percent.
use Prim.Native.Nat.{suc-le-suc}
use mathlib.Core.Path.{sym}
use native.Mathlib.Nat.{le_trans, le_of_eq}
use native.Mathlib.Omega.{arith}
use Rattle.digits.proofs.PercentLaws.{seek_starts, seek_up}
use Rattle.digits.proofs.least_float.Goals as goal

pub loop-lo-init : goal.loop-lo-init
loop-lo-init c = seek_starts c.args.bits c.requires

pub loop-lo-preserved-then-hundredth-bits : goal.loop-lo-preserved-then-hundredth-bits
loop-lo-preserved-then-hundredth-bits c =
    seek_up c.loop-lo.invariant (omega arith) (omega arith)
    (le_trans (suc-le-suc (le_of_eq (sym c.hundredth.ensures))) c.if-hundredth-bits.true)
