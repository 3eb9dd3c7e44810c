-- `totals::add` meets its contract: one word is written.
use borrow.Author.Rules.{rules}
use Rattle.totals.proofs.TotalsLaws.{set-added}
use Rattle.totals.proofs.add.Goals as goal

pub returns : goal.returns
returns c = search (rules, set-added)
