-- `sheet_shape::walk::take_frame` meets its contract: one field after the other.
use mathlib.Core.Path.{refl}
use Rattle.ast.specs.Means.{opt_easing_view}
use Rattle.sheet.specs.Sheet.{easing_form, of_entry, to_entry}
use Rattle.sheet_decode.proofs.ReadLaws.{◌&◌}
use Rattle.sheet_decode.proofs.ReadLaws as laws
use Rattle.sheet_shape.proofs.FrameLaws.{time-read}
use Rattle.sheet_shape.proofs.walk.take_frame.Goals as goal

pub returns : goal.returns
returns c =
    let w = c.args.w in
    laws.through to_entry of_entry
    (laws.seen (time-read w c.take_byte-kind.ensures c.take_field-time.ensures.reads & c.take_frame_value-value.ensures
    & laws.optional (easing_form c.args.n) opt_easing_view refl (λ a. refl) c.take_opt-easing.ensures (λ m x r. search laws.given))
    (λ p e i. (e i).1.0))
