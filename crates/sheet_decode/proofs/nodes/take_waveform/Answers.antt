-- `sheet_decode::nodes::take_waveform` meets its contract: one field after the other.
use mathlib.Core.Path.{refl}
use Rattle.ast.specs.Means.{opt_float_view, opt_word_view}
use Rattle.sheet.specs.Sheet.{of_waveform, to_waveform, word}
use Rattle.sheet_decode.proofs.ReadLaws.{◌&◌}
use Rattle.sheet_decode.proofs.ReadLaws as laws
use Rattle.sheet_decode.proofs.nodes.take_waveform.Goals as goal

pub returns : goal.returns
returns c =
    laws.through to_waveform of_waveform
    (laws.seen (c.take_byte-kind.ensures.reads & laws.optional word opt_float_view refl (λ a. refl) c.take_opt-frequency.ensures (λ m x r. search laws.given)
    & laws.optional word opt_float_view refl (λ a. refl) c.take_opt-amplitude.ensures (λ m x r. search laws.given) & laws.optional word opt_float_view refl (λ a. refl) c.take_opt-phase.ensures (λ m x r. search laws.given)
    & laws.optional word opt_float_view refl (λ a. refl) c.take_opt-duty_cycle.ensures (λ m x r. search laws.given)
    & laws.optional word opt_word_view refl (λ a. refl) c.take_opt-seed.ensures (λ m x r. search laws.given) & laws.optional word opt_float_view refl (λ a. refl) c.take_opt-smoothness.ensures (λ m x r. search laws.given) & laws.optional word opt_float_view refl (λ a. refl) c.take_opt-duration.ensures (λ m x r. search laws.given))
    (λ p e i.
    record {
      kind = (e i).0;
      frequency = (e i).1.0;
      amplitude = (e i).1.1.0;
      phase = (e i).1.1.1.0;
      duty_cycle = (e i).1.1.1.1.0;
      seed = (e i).1.1.1.1.1.0;
      smoothness = (e i).1.1.1.1.1.1.0;
      duration = (e i).1.1.1.1.1.1.1;
    }))
