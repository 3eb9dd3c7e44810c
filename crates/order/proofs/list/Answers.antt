-- `order::list` meets its contract.
use native.Mathlib.Omega.{arith}
use Rattle.order.specs.Means.{calls_in}
use Rattle.order.proofs.ListLaws.{coming_none, coming_next, coming_done, first_low}
use Rattle.order.proofs.list.Goals as goal

pub returns-in_default : goal.returns-in_default
returns-in_default c =
    let args = c.args in
    coming_none (calls_in args.calls.now) args.n c.loop-k-test.true c.loop-k.invariant c.in_default.ensures

pub overflow_cast-out : goal.overflow_cast-out
overflow_cast-out c = omega (arith, c.requires.0.few, first_low _ c.args.n c.in-Some.i c.in-Some.ensures)

pub loop-k-preserved : goal.loop-k-preserved
loop-k-preserved c =
    let args = c.args in
    coming_next (calls_in args.calls.now) args.n c.loop-k.out c.loop-k-test.true (omega (arith, c.requires.0.few)) c.loop-k.invariant
    c.in-Some.ensures

pub returns : goal.returns
returns c = coming_done (calls_in c.args.calls.now) c.args.n c.loop-k.out (omega arith) c.loop-k.invariant
