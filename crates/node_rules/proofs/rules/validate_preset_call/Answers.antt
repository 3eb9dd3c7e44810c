-- `node_rules::rules::validate_preset_call` meets its contract: the first rule that is broken, over what the code holds.
use Rattle.std.proofs.Common.{rules}
use mathlib.Core.Path.{◌≡◌, sym, ◌∙◌}
use Rattle.number.specs.Number.{f32}
use Rattle.checking.specs.Rules.{first}
use Rattle.node_rules.proofs.KindLaws as kinds
use Rattle.node_rules.proofs.rules.validate_preset_call.Goals as goal

pub returns-then-not-is_known_preset : goal.returns-then-not-is_known_preset
unfolding first f32
returns-then-not-is_known_preset c = kinds.preset _ _ (search rules)

pub returns-in_err-validate_easing : goal.returns-in_err-validate_easing
unfolding first f32
returns-in_err-validate_easing c =
    let e : c.from_residual.result ≡ c.validate_easing.result = search rules in
    kinds.preset _ _
    (rw (e, sym c.is_known_preset.ensures ∙ c.if-not-is_known_preset.false)
    (kinds.refused _ _ _ c.in_err-validate_easing.was c.validate_easing.ensures.held))

pub returns-then-is_some_and : goal.returns-then-is_some_and
unfolding first f32
returns-then-is_some_and c = kinds.preset _ _ (search rules)

pub returns : goal.returns
unfolding first f32
returns c = kinds.preset _ _ (search rules)
