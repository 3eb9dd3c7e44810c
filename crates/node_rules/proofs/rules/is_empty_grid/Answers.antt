-- `node_rules::rules::is_empty_grid` meets its contract: only a grid can be empty.
use Rattle.node_rules.proofs.KindLaws as kinds
use Rattle.node_rules.proofs.rules.is_empty_grid.Goals as goal

pub returns-in_default : goal.returns-in_default
returns-in_default c = kinds.no_grid _ c.in_default.not-Grid
