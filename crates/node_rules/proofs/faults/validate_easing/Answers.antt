-- `node_rules::faults::validate_easing` meets its contract: of a tree's easing too.
use Rattle.std.proofs.Common.{rules}
use Rattle.checking.specs.Rules.{first}
use Rattle.node_rules.proofs.KindLaws as kinds
use Rattle.node_rules.proofs.faults.validate_easing.Goals as goal

pub returns-then-is_some_and-clause-told : goal.returns-then-is_some_and-clause-told
unfolding first
returns-then-is_some_and-clause-told c = kinds.opt_easing _ _ (search rules)

pub returns-clause-told : goal.returns-clause-told
unfolding first
returns-clause-told c = kinds.opt_easing _ _ (search rules)
