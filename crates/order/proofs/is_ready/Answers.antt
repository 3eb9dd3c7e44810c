-- `order::is_ready` meets its contract.
use mathlib.Core.Path.{◌∙◌}
use native.Mathlib.Omega.{arith}
use Rattle.std.proofs.Common.{rules, tests}
use Rattle.std.proofs.lemmas.Iterator.{YieldsList-from_range}
use Rattle.std.proofs.lemmas.Iterator.Search.{all_from_yields_List}
use Rattle.order.specs.Means.{calls_in, not_waiting}
use Rattle.order.proofs.CountLaws.{all-every}
use Rattle.order.proofs.is_ready.Goals as goal

pub returns : goal.returns
returns c =
    let args = c.args in
    all_from_yields_List (not_waiting (calls_in args.calls.now) args.listed.now args.i) _ _ _ c.all.ensures.ran (YieldsList-from_range 0 args.n args.n (cc) (omega arith)) (λ x b q k. search (rules, tests))
    ∙ all-every (not_waiting (calls_in args.calls.now) args.listed.now args.i) args.n
