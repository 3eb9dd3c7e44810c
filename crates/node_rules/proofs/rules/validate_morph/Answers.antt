-- `node_rules::rules::validate_morph` meets its contract: the first rule that is broken, over what the code holds.
use Rattle.std.proofs.Common.{rules}
use Rattle.number.specs.Number.{f32}
use Rattle.checking.specs.Rules.{first}
use Rattle.node_rules.proofs.KindLaws as kinds
use Rattle.node_rules.proofs.rules.validate_morph.Goals as goal

pub returns-then-spec : goal.returns-then-spec
unfolding first f32
returns-then-spec c = kinds.morph _ _ (search rules)

pub returns-then-spec-eq0 : goal.returns-then-spec-eq0
unfolding first f32
returns-then-spec-eq0 c = kinds.morph _ _ (search rules)

pub returns : goal.returns
unfolding first f32
returns c = kinds.morph _ _ (search rules)
