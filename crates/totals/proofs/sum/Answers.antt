-- `totals::sum` meets its contract.
use Prim.Native.Nat.{◌+◌, ◌*◌, ◌-◌, ◌≤◌}
use mathlib.Core.Path.{◌≡◌, ap, ◌∙◌}
use native.Mathlib.Omega.{arith}
use lib.ListN.{take, drop}
use lib.Seq.{get_or-drop}
use Rattle.std.specs.List.{sum_by}
use Rattle.std.proofs.Common.{rules}
use Rattle.std.proofs.lemmas.Iterator.{YieldsList-from_slice, YieldsList-from_map}
use Rattle.std.proofs.lemmas.Iterator.Consumers.{YieldsList-at, sum_by_from_yields_List, fits_by_from_yields_list}
use Rattle.totals.specs.Totals.{itself, sum_of}
use Rattle.totals.proofs.TotalsLaws.{between-min, sum-itself, sum-fits}
use Rattle.totals.proofs.sum.Goals as goal

pub sum-requires-clause-fits : goal.sum-requires-clause-fits
sum-requires-clause-fits c =
    let ws = c.args.words.now in
    let from = c.args.from in
    let to = c.args.to in
    let first = c.min-first.result in
    let all = take (to - first) (drop first ws) in
    let e : sum_by itself all ≡ sum_of itself (take (to - from) (drop from ws)) =
    sum-itself all ∙ ap (sum_of itself) (between-min ws from to first c.min-first.ensures)
    in
    let f : sum_of itself (take (to - from) (drop from ws)) ≤ (to - from) * 4294967295 =
    sum-fits (to - from) (drop from ws) (λ i. rw (get_or-drop from ws i 0) (omega (arith, c.type_inv.words (from + i))))
    in
    fits_by_from_yields_list itself all c.map.result _
    (YieldsList-from_map _ itself
    (YieldsList-at c.map.ensures.source (YieldsList-from_slice all cc))
    c.map.ensures.closure
    (λ x r q k. search rules))
    (omega (arith, e, f, c.requires.to_bound))

pub returns : goal.returns
returns c =
    let ws = c.args.words.now in
    let from = c.args.from in
    let to = c.args.to in
    let first = c.min-first.result in
    let all = take (to - first) (drop first ws) in
    sum_by_from_yields_List itself all c.map.result _ c.sum.ensures.ran
    (YieldsList-from_map _ itself
    (YieldsList-at c.map.ensures.source (YieldsList-from_slice all cc))
    c.map.ensures.closure
    (λ x r q k. search rules))
    ∙ sum-itself all
    ∙ ap (sum_of itself) (between-min ws from to first c.min-first.ensures)
