-- `node_rules::rules::validate_spring` meets its contract: the first rule that is broken, over what the code holds.
use Rattle.std.proofs.Common.{rules}
use Rattle.number.specs.Number.{f32}
use Rattle.checking.specs.Rules.{first}
use Rattle.node_rules.proofs.KindLaws as kinds
use Rattle.node_rules.proofs.rules.validate_spring.Goals as goal

pub returns-then-is_mismatched : goal.returns-then-is_mismatched
unfolding first f32
returns-then-is_mismatched c = kinds.spring _ (search rules)

pub returns-then-is_some_and : goal.returns-then-is_some_and
unfolding first f32
returns-then-is_some_and c = kinds.spring _ (search rules)

pub returns-then-is_some_and-2 : goal.returns-then-is_some_and-2
unfolding first f32
returns-then-is_some_and-2 c = kinds.spring _ (search rules)

pub returns-then-is_some_and-3 : goal.returns-then-is_some_and-3
unfolding first f32
returns-then-is_some_and-3 c = kinds.spring _ (search rules)

pub returns : goal.returns
unfolding first f32
returns c = kinds.spring _ (search rules)
