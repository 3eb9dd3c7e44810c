-- `sheet_refusals::first_foreign` meets its contract.
use mathlib.Core.Path.{ap, ◌∙◌}
use Rattle.std.proofs.Common.{rules, tests}
use Rattle.std.proofs.lemmas.Iterator.{YieldsList-from_slice}
use Rattle.std.proofs.lemmas.Iterator.Search.{position_from_yields_List}
use Rattle.text.specs.Bytes.{is_foreign}
use Rattle.text.specs.Means.{place_of}
use Rattle.sheet_refusals.proofs.OpenLaws as laws
use Rattle.sheet_refusals.proofs.first_foreign.Goals as goal

pub returns : goal.returns
returns c =
    let text = c.args.text.now in
    ap place_of (position_from_yields_List is_foreign _ _ _ c.position.ensures.ran (YieldsList-from_slice text cc) (λ x b q k. search (rules, tests)))
    ∙ laws.first-foreign text
