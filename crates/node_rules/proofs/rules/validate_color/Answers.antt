-- `node_rules::rules::validate_color` meets its contract: the first rule that is broken, over what the code holds.
use Rattle.std.proofs.Common.{rules}
use Rattle.number.specs.Number.{f32}
use Rattle.checking.specs.Rules.{first}
use Rattle.node_rules.proofs.KindLaws as kinds
use Rattle.node_rules.proofs.rules.validate_color.Goals as goal

pub returns-then-spec : goal.returns-then-spec
unfolding first f32
returns-then-spec c = kinds.color _ _ _ (search rules)

pub returns-then-not-is_color : goal.returns-then-not-is_color
unfolding first f32
returns-then-not-is_color c = kinds.color _ _ _ (search rules)

pub returns-then-not-is_color-2 : goal.returns-then-not-is_color-2
unfolding first f32
returns-then-not-is_color-2 c = kinds.color _ _ _ (search rules)

pub returns : goal.returns
unfolding first f32
returns c = kinds.color _ _ _ (search rules)
