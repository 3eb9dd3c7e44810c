-- `sheet_decode::nodes::take_color` meets its contract: one field after the other.
use mathlib.Core.Path.{refl}
use Rattle.ast.specs.Means.{opt_easing_view}
use Rattle.sheet.specs.Sheet.{easing_form, of_color, to_color}
use Rattle.sheet_decode.proofs.ReadLaws.{◌&◌}
use Rattle.sheet_decode.proofs.ReadLaws as laws
use Rattle.sheet_decode.proofs.nodes.take_color.Goals as goal

pub returns : goal.returns
returns c =
    laws.through to_color of_color (laws.seen (c.take_span-target.ensures & c.take_span-from.ensures
    & c.take_span-to.ensures & c.take_float-duration.ensures & c.take_byte-space.ensures.reads
    & laws.optional (easing_form c.args.n) opt_easing_view refl (λ a. refl) c.take_opt-easing.ensures (λ m x r. search laws.given))
    (λ p e i. record {
      target = (e i).0;
      from = (e i).1.0;
      to = (e i).1.1.0;
      duration = (e i).1.1.1.0;
      space = (e i).1.1.1.1.0;
      easing = (e i).1.1.1.1.1;
    }))
