-- `node_rules::rules::validate_tween` meets its contract: the first rule that is broken, over what the code holds.
use Rattle.std.proofs.Common.{rules}
use mathlib.Core.Path.{◌≡◌, sym, ◌∙◌}
use Rattle.number.specs.Number.{f32}
use Rattle.checking.specs.Rules.{first}
use Rattle.node_rules.proofs.KindLaws as kinds
use Rattle.node_rules.proofs.rules.validate_tween.Goals as goal

pub returns-then-spec : goal.returns-then-spec
unfolding first f32
returns-then-spec c = kinds.tween _ _ (search rules)

pub returns-then-is_mismatched : goal.returns-then-is_mismatched
unfolding first f32
returns-then-is_mismatched c = kinds.tween _ _ (search rules)

pub returns-in_err-validate_easing : goal.returns-in_err-validate_easing
unfolding first f32
returns-in_err-validate_easing c =
    let e : c.from_residual.result ≡ c.validate_easing.result = search rules in
    kinds.tween _ _
    (rw (e, c.if-spec.false, sym c.is_mismatched.ensures.held ∙ c.if-is_mismatched.false)
    (kinds.refused _ _ _ c.in_err-validate_easing.was c.validate_easing.ensures.held))

pub returns-then-is_some_and : goal.returns-then-is_some_and
unfolding first f32
returns-then-is_some_and c = kinds.tween _ _ (search rules)

pub returns-then-is_some_and-2 : goal.returns-then-is_some_and-2
unfolding first f32
returns-then-is_some_and-2 c = kinds.tween _ _ (search rules)

pub returns : goal.returns
unfolding first f32
returns c = kinds.tween _ _ (search rules)
