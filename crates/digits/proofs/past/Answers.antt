-- `digits::past` meets its contract.
use native.Mathlib.Omega.{arith}
use Rattle.digits.proofs.MiddleLaws.{room}
use Rattle.digits.proofs.past.Goals as goal

pub overflow_add-result : goal.overflow_add-result
overflow_add-result c =
    let r = room {m = c.args.m} {d = c.args.scale} c.requires.0 c.requires.2 in
    omega (arith, r.product, r.shifted, r.high)
