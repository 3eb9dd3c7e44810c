-- `text::has` meets its contract.
use mathlib.Core.Path.{◌∙◌}
use lib.Dec.{eqb}
use Rattle.std.proofs.Common.{rules, tests}
use Rattle.std.proofs.lemmas.Iterator.{YieldsList-from_slice}
use Rattle.std.proofs.lemmas.Iterator.Search.{any_from_yields_List}
use Rattle.text.proofs.ByteLaws.{any-one_of}
use Rattle.text.proofs.has.Goals as goal

pub returns : goal.returns
returns c =
    let args = c.args in
    any_from_yields_List (eqb args.b) _ _ _ c.any.ensures.ran (YieldsList-from_slice args.set.now cc) (λ x b q k. search (rules, tests))
    ∙ any-one_of args.b args.set.now
