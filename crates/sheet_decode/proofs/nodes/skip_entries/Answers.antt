-- `sheet_decode::nodes::skip_entries` meets its contract: the loop keeps that what is read from here on is read from the start.
use Rattle.sheet.specs.Sheet.{entry_form}
use Rattle.sheet_decode.proofs.ReadLaws as laws
use Rattle.sheet_decode.proofs.nodes.skip_entries.Goals as goal

pub loop-init : goal.loop-init
loop-init c = laws.walk_start (entry_form c.args.n) _ _ _

pub loop-preserved : goal.loop-preserved
loop-preserved c = laws.walk-next (entry_form c.args.n) _ _ _ _ _ _ c.loop-test.true c.take_entry-next.ensures c.loop.invariant

pub returns : goal.returns
returns c = laws.walk_done (entry_form c.args.n) _ _ _ _ _ c.loop-test.false c.loop.invariant
