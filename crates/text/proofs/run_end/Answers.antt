-- `text::run_end` meets its contract; the loop keeps where the run ends, whichever of its bytes is the next.
use mathlib.Core.Path.{sym, ◌∙◌}
use native.Mathlib.Omega.{arith}
use Rattle.text.specs.Means.{passes}
use Rattle.text.proofs.ByteLaws.{run_at, run_end, run_past}
use Rattle.text.proofs.run_end.Goals as goal

pub returns-then-not-in_class : goal.returns-then-not-in_class
returns-then-not-in_class c =
    let args = c.args in
    let e = sym c.in_class.ensures ∙ c.if-not-in_class.true in
    omega (arith, run_end (passes args.k) args.text.now c.loop-i.i (omega arith) e)

pub loop-i-preserved : goal.loop-i-preserved
loop-i-preserved c =
    let args = c.args in
    let e = sym c.in_class.ensures ∙ c.if-not-in_class.false in
    omega (arith, run_at (passes args.k) args.text.now c.loop-i.i (omega arith) e)

pub returns : goal.returns
returns c =
    let args = c.args in
    omega (arith, run_past (passes args.k) args.text.now c.loop-i.i (omega arith))
