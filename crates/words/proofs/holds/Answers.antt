-- `words::holds` meets its contract: a word is looked for in as many bytes as there are.
use mathlib.Core.Path.{sym, ◌∙◌}
use Rattle.words.proofs.KeyLaws.{part-counted, place_found}
use Rattle.words.proofs.ListLaws.{no_empty_lem}
use Rattle.words.proofs.holds.Goals as goal

pub returns-then-size-ne0 : goal.returns-then-size-ne0
returns-then-size-ne0 c =
    let args = c.args in
    c.is_some.ensures
    ∙ place_found _ c.find.ensures
    ∙ (rw (part-counted args.text.now args.at args.n _ c.part-size.ensures))

pub returns-else-size-ne0 : goal.returns-else-size-ne0
returns-else-size-ne0 c = (rw c.if-size-ne0.false) ∙ no_empty_lem _ _ (rw (sym c.part-size.ensures) c.if-size-ne0.false)
