-- `sheet_decode::nodes::take_entry` meets its contract: one field after the other.
use Rattle.ast.specs.Means.{opt_easing_view}
use mathlib.Core.Path.{refl, ◌∙◌, sym}
use Rattle.ast.specs.Means.{entry_of}
use Rattle.sheet.specs.Sheet.{easing_form, of_entry, to_entry}
use Rattle.sheet_decode.proofs.ReadLaws.{◌&◌}
use Rattle.sheet_decode.proofs.ReadLaws as laws
use Rattle.sheet_decode.proofs.nodes.take_entry.Goals as goal

pub returns : goal.returns
returns c =
    laws.through to_entry of_entry
    (laws.seen (c.take_time-time.ensures & c.take_value-value.ensures & laws.optional (easing_form c.args.n) opt_easing_view refl (λ a. refl) c.take_opt-easing.ensures (λ m x r. search laws.given))
    (λ p e. (λ i. entry_of (e i).0.0 (e i).0.1 (e i).1.0 (e i).1.1) ∙ sym c.entry_of-v.ensures))
