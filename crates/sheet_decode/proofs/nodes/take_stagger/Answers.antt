-- `sheet_decode::nodes::take_stagger` meets its contract: one field after the other.
use mathlib.Core.Path.{refl}
use Rattle.ast.specs.Means.{opt_float_view, opt_pattern_view}
use Rattle.sheet.specs.Sheet.{pattern_form, word}
use Rattle.sheet_decode.proofs.ReadLaws.{◌&◌}
use Rattle.sheet_decode.proofs.ReadLaws as laws
use Rattle.sheet_decode.proofs.nodes.take_stagger.Goals as goal

pub returns : goal.returns
returns c =
    laws.seen (laws.optional pattern_form opt_pattern_view refl (λ a. refl) c.take_opt-pattern.ensures (λ m x r. search laws.given) & laws.optional word opt_float_view refl (λ a. refl) c.take_opt-delay.ensures (λ m x r. search laws.given)
    & c.take_field-nodes.ensures.reads)
    (λ p e i. record { pattern = (e i).0; delay = (e i).1.0; nodes = (e i).1.1 })
