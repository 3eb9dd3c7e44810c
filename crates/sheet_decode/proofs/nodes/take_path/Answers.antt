-- `sheet_decode::nodes::take_path` meets its contract: one field after the other.
use mathlib.Core.Path.{refl}
use Rattle.ast.specs.Means.{opt_bool_view, opt_easing_view, opt_loop_view, opt_range_view}
use Rattle.codec.specs.Codec.{◌▹◌}
use Rattle.sheet.specs.Sheet.{easing_form, flag, loop_form, of_path, to_path, word}
use Rattle.sheet_decode.proofs.ReadLaws.{◌&◌}
use Rattle.sheet_decode.proofs.ReadLaws as laws
use Rattle.sheet_decode.proofs.nodes.take_path.Goals as goal

pub returns : goal.returns
returns c =
    laws.through to_path of_path
    (laws.seen (c.take_span-target.ensures & c.take_span-svg.ensures & c.take_float-duration.ensures
    & laws.optional (easing_form c.args.n) opt_easing_view refl (λ a. refl) c.take_opt-easing.ensures (λ m x r. search laws.given) & laws.optional flag opt_bool_view refl (λ a. refl) c.take_opt-auto_rotate.ensures (λ m x r. search laws.given) & laws.optional (word ▹ word) opt_range_view refl (λ a. refl) c.take_opt-offset.ensures (λ m x r. search laws.given)
    & laws.optional loop_form opt_loop_view refl (λ a. refl) c.take_opt-loop_mode.ensures (λ m x r. search laws.given))
    (λ p e i.
    record {
      target = (e i).0;
      svg = (e i).1.0;
      duration = (e i).1.1.0;
      easing = (e i).1.1.1.0;
      auto_rotate = (e i).1.1.1.1.0;
      offset = (e i).1.1.1.1.1.0;
      loop_mode = (e i).1.1.1.1.1.1;
    }))
