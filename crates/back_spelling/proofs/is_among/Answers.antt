-- `back_spelling::is_among` meets its contract.
use mathlib.Core.Path.{◌∙◌}
use Rattle.std.proofs.Common.{rules, tests}
use Rattle.std.proofs.lemmas.Iterator.{YieldsList-from_slice}
use Rattle.std.proofs.lemmas.Iterator.Search.{any_from_yields_List}
use Rattle.text.specs.Bytes.{same}
use Rattle.back_spelling.proofs.PageLaws.{listed}
use Rattle.back_spelling.proofs.is_among.Goals as goal

pub returns : goal.returns
returns c =
    any_from_yields_List (λ n. same c.args.word.now n.now) _ _ _ c.any.ensures.ran (YieldsList-from_slice c.args.names.now cc)
    (λ x b q k. search (rules, tests))
    ∙ listed c.args.names.now 0 c.args.word.now
