-- `sheet_refusals::has_foreign` meets its contract: the loop keeps that there is one among the bytes passed or behind them.
use Rattle.sheet_refusals.proofs.OpenLaws as laws
use Rattle.sheet_refusals.proofs.has_foreign.Goals as goal

pub loop-b-preserved : goal.loop-b-preserved
loop-b-preserved c = laws.asked_next _ _ c.loop-b.any c.loop-b-test.true c.in_class-any.ensures c.loop-b.invariant

pub returns : goal.returns
returns c = laws.asked_all _ _ _ c.loop-b-test.false c.loop-b.invariant
