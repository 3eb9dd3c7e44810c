-- `node_rules::faults::is_unknown` meets its contract: only a name can be unknown.
use Rattle.node_rules.proofs.KindLaws as kinds
use Rattle.node_rules.proofs.faults.is_unknown.Goals as goal

pub returns-in_default : goal.returns-in_default
returns-in_default c = kinds.no_name _ _ c.in_default.not-Named
