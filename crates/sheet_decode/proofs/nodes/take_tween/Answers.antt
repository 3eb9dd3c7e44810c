-- `sheet_decode::nodes::take_tween` meets its contract: one field after the other.
use mathlib.Core.Path.{refl}
use Rattle.ast.specs.Means.{opt_easing_view, opt_float_view, opt_loop_view, opt_word_view}
use Rattle.sheet.specs.Sheet.{easing_form, loop_form, of_tween, to_tween, word}
use Rattle.sheet_decode.proofs.ReadLaws.{◌&◌}
use Rattle.sheet_decode.proofs.ReadLaws as laws
use Rattle.sheet_decode.proofs.nodes.take_tween.Goals as goal

pub returns : goal.returns
returns c =
    laws.through to_tween of_tween (laws.seen (c.take_span-target.ensures & c.take_value-from.ensures
    & c.take_value-to.ensures & c.take_float-duration.ensures & laws.optional (easing_form c.args.n) opt_easing_view refl (λ a. refl) c.take_opt-easing.ensures (λ m x r. search laws.given)
    & laws.optional word opt_float_view refl (λ a. refl) c.take_opt-delay.ensures (λ m x r. search laws.given) & laws.optional word opt_float_view refl (λ a. refl) c.take_opt-time_scale.ensures (λ m x r. search laws.given) & laws.optional loop_form opt_loop_view refl (λ a. refl) c.take_opt-loop_mode.ensures (λ m x r. search laws.given)
    & laws.optional word opt_float_view refl (λ a. refl) c.take_opt-snap.ensures (λ m x r. search laws.given) & laws.optional word opt_word_view refl (λ a. refl) c.take_opt-round.ensures (λ m x r. search laws.given) & c.take_flag-reverse.ensures)
    (λ p e i. record {
      target = (e i).0;
      from = (e i).1.0;
      to = (e i).1.1.0;
      duration = (e i).1.1.1.0;
      easing = (e i).1.1.1.1.0;
      delay = (e i).1.1.1.1.1.0;
      time_scale = (e i).1.1.1.1.1.1.0;
      loop_mode = (e i).1.1.1.1.1.1.1.0;
      snap = (e i).1.1.1.1.1.1.1.1.0;
      round = (e i).1.1.1.1.1.1.1.1.1.0;
      reverse = (e i).1.1.1.1.1.1.1.1.1.1;
    }))
