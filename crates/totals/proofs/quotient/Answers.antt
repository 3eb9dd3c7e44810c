-- `totals::quotient` meets its contract.
use Prim.Native.Nat.{◌<◌}
use native.Mathlib.Omega.{arith}
use Rattle.totals.proofs.MeanLaws.{gcd_positive}
use Rattle.totals.proofs.quotient.Goals as goal

pub nonzero_div-result : goal.nonzero_div-result
nonzero_div-result c =
    let n = c.if-b-eq0.false in
    let h : 0 < c.divisor-d.result = rw c.divisor-d.ensures (gcd_positive _ _ (omega arith)) in
    omega arith

pub nonzero_div-result-2 : goal.nonzero_div-result-2
nonzero_div-result-2 c =
    let n = c.if-b-eq0.false in
    let h : 0 < c.divisor-d.result = rw c.divisor-d.ensures (gcd_positive _ _ (omega arith)) in
    omega arith
