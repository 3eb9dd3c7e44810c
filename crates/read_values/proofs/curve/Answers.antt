-- `read_values::curve` meets its contract.
use native.Mathlib.Omega.{arith}
use Rattle.grammar.specs.Values.{curves}
use Rattle.read_values.proofs.RowLaws.{elem_at, elem_lt}
use mathlib.Core.Path.{refl}
use Rattle.read_values.proofs.curve.Goals as goal

pub returns-in-0 : goal.returns-in-0
unfolding curves
returns-in-0 c row e = rw (← elem_at curves c.args.i 0 row _ c.in-0.is refl e) c.bezier_curve.ensures

pub returns-in-1 : goal.returns-in-1
unfolding curves
returns-in-1 c row e = rw (← elem_at curves c.args.i 1 row _ c.in-1.is refl e) c.steps_curve.ensures

pub returns-in-2 : goal.returns-in-2
unfolding curves
returns-in-2 c row e = rw (← elem_at curves c.args.i 2 row _ c.in-2.is refl e) c.wiggle_curve.ensures

pub returns-in-3 : goal.returns-in-3
unfolding curves
returns-in-3 c row e = rw (← elem_at curves c.args.i 3 row _ c.in-3.is refl e) c.rough_curve.ensures

pub returns-in_default : goal.returns-in_default
unfolding curves
returns-in_default c row e =
    let args = c.args in
    let h = elem_lt curves args.i row e in
    rw (← elem_at curves args.i 4 row _ (omega arith) refl e) c.slow_mo_curve.ensures
