-- `order::first_free` meets its contract.
use mathlib.Core.Bool.{true, false}
use mathlib.Core.Path.{◌≡◌}
use Rattle.std.proofs.Common.{rules, tests}
use Rattle.std.proofs.lemmas.Iterator.{first_from_Range}
use Rattle.order.specs.Order.{free}
use Rattle.order.specs.Means.{calls_in}
use Rattle.order.proofs.CountLaws.{find-first}
use Rattle.order.proofs.first_free.Goals as goal

pub returns : goal.returns
returns c =
    let args = c.args in
    let p = free (calls_in args.calls.now) args.n args.listed.now in
    find-first p args.n c.find.result
    (first_from_Range _ _ _ c.find.result (λ i. p i ≡ true) (λ i. p i ≡ false) c.find.ensures.ran (λ x q k. search (rules, tests)) (λ x q k. search (rules, tests)))
