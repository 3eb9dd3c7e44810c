-- `sheet_decode::nodes::take_morph` meets its contract: one field after the other.
use mathlib.Core.Path.{refl}
use Rattle.ast.specs.Means.{opt_easing_view}
use Rattle.sheet.specs.Sheet.{easing_form, of_morph, to_morph}
use Rattle.sheet_decode.proofs.ReadLaws.{◌&◌}
use Rattle.sheet_decode.proofs.ReadLaws as laws
use Rattle.sheet_decode.proofs.nodes.take_morph.Goals as goal

pub returns : goal.returns
returns c =
    laws.through to_morph of_morph (laws.seen (c.take_span-from.ensures & c.take_span-to.ensures
    & c.take_field-samples.ensures.reads & c.take_float-duration.ensures & laws.optional (easing_form c.args.n) opt_easing_view refl (λ a. refl) c.take_opt-easing.ensures (λ m x r. search laws.given))
    (λ p e i. record { from = (e i).0; to = (e i).1.0; samples = (e i).1.1.0; duration = (e i).1.1.1.0; easing = (e i).1.1.1.1 }))
