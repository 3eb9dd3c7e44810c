-- `sheet_decode::nodes::take_preset` meets its contract: one field after the other.
use mathlib.Core.Path.{refl}
use Rattle.ast.specs.Means.{opt_float_view, opt_easing_view}
use Rattle.sheet.specs.Sheet.{of_preset, to_preset, word, easing_form}
use Rattle.sheet_decode.proofs.ReadLaws.{◌&◌}
use Rattle.sheet_decode.proofs.ReadLaws as laws
use Rattle.sheet_decode.proofs.nodes.take_preset.Goals as goal

pub returns : goal.returns
returns c =
    laws.through to_preset of_preset (laws.seen (c.take_span-name.ensures
    & laws.optional word opt_float_view refl (λ a. refl) c.take_opt-duration.ensures (λ m x r. search laws.given)
    & laws.optional (easing_form c.args.n) opt_easing_view refl (λ a. refl) c.take_opt-easing.ensures (λ m x r. search laws.given))
    (λ p e i. record { name = (e i).0; duration = (e i).1.0; easing = (e i).1.1 }))
