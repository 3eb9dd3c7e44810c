-- `sheet_shape::walk::take_node` meets its contract: a track's record, or that of any other kind.
use Rattle.std.proofs.Common.{length}
use Rattle.codec.specs.Codec.{each}
use mathlib.Core.Path.{refl}
use Rattle.ast.specs.Means.{opt_loop_view}
use Rattle.sheet.specs.Sheet.{entry_form_of, loop_form, of_keyframes, to_keyframes}
use Rattle.sheet_decode.proofs.ReadLaws.{◌&◌}
use Rattle.sheet_decode.proofs.ReadLaws as laws
use Rattle.sheet_shape.proofs.NodeLaws.{track_record, plain_record}
use Rattle.sheet_shape.proofs.walk.take_node.Goals as goal

pub returns-then-k-eq2 : goal.returns-then-k-eq2
returns-then-k-eq2 c =
    let w = c.args.w in
    let n = c.args.n in
    track_record w n c.take_kind-k.ensures c.if-k-eq2.true
    (laws.through to_keyframes of_keyframes
    (laws.seen (c.take_span-target.ensures
    & laws.counted length (each (entry_form_of w n)) c.take_field-count.ensures.reads c.take_frames-frames.ensures
    & laws.optional loop_form opt_loop_view refl (λ a. refl) c.take_opt-loop_mode.ensures (λ m x r. search laws.given))
    (λ p e i. (e i).1.0)))

pub returns : goal.returns
returns c = plain_record c.args.w c.args.n c.take_kind-k.ensures.kind_at c.if-k-eq2.false c.take_record-r.ensures
