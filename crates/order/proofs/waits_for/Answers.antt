-- `order::waits_for` meets its contract.
use mathlib.Core.Bool.{not}
use mathlib.Core.Path.{ap, ◌∙◌}
use borrow.Author.Tests.{eq-eqb}
use Rattle.order.proofs.ListLaws.{waits_not, waits_if}
use Rattle.order.proofs.waits_for.Goals as goal

pub returns-then-calls-i-ne0 : goal.returns-then-calls-i-ne0
returns-then-calls-i-ne0 c =
    let args = c.args in
    waits_if args.calls.now args.listed.now args.i args.j c.if-calls-i-ne0.true c.has.ensures

pub returns-else-calls-i-ne0 : goal.returns-else-calls-i-ne0
returns-else-calls-i-ne0 c =
    let args = c.args in
    ap not (eq-eqb _ _ c.if-calls-i-ne0.false)
    ∙ waits_not args.calls.now args.listed.now args.i args.j c.if-calls-i-ne0.false
