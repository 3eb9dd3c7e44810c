-- `node_rules::rules::validate_waveform` meets its contract: the first rule that is broken, over what the code holds.
use Rattle.std.proofs.Common.{rules}
use Rattle.number.specs.Number.{f32}
use Rattle.checking.specs.Rules.{first}
use Rattle.node_rules.proofs.KindLaws as kinds
use Rattle.node_rules.proofs.rules.validate_waveform.Goals as goal

pub returns-then-spec-eq-NOISE : goal.returns-then-spec-eq-NOISE
unfolding first f32
returns-then-spec-eq-NOISE c = kinds.waveform _ (search rules)

pub returns-then-is_some_and : goal.returns-then-is_some_and
unfolding first f32
returns-then-is_some_and c = kinds.waveform _ (search rules)

pub returns : goal.returns
unfolding first f32
returns c = kinds.waveform _ (search rules)
