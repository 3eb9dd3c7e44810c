-- `totals::divisor` meets its contract: the loop keeps that what is left to do gives the divisor.
use borrow.Author.Rules.{rules}
use Rattle.totals.proofs.MeanLaws.{euclid_next, euclid_last}
use Rattle.totals.proofs.divisor.Goals as goal

pub loop-b-preserved : goal.loop-b-preserved
loop-b-preserved c = search (rules, euclid_next)

pub returns : goal.returns
returns c = search (rules, euclid_last)
