-- `sheet_decode::nodes::take_keyframes` meets its contract: one field after the other.
use mathlib.Core.Path.{refl}
use Rattle.ast.specs.Means.{opt_loop_view}
use lib.ListN.{length}
use Rattle.codec.specs.Codec.{each}
use Rattle.sheet.specs.Sheet.{entry_form, loop_form, of_keyframes, to_keyframes}
use Rattle.sheet_decode.proofs.ReadLaws.{◌&◌}
use Rattle.sheet_decode.proofs.ReadLaws as laws
use Rattle.sheet_decode.proofs.nodes.take_keyframes.Goals as goal

pub returns : goal.returns
returns c =
    laws.through to_keyframes of_keyframes
    (laws.seen (c.take_span-target.ensures
    & laws.counted length (each (entry_form c.args.n)) c.take_field-count.ensures.reads
    c.skip_entries-end.ensures
    & laws.optional loop_form opt_loop_view refl (λ a. refl) c.take_opt-loop_mode.ensures (λ m x r. search laws.given))
    (λ p e i. record { target = (e i).0; frames = (e i).1.0; loop_mode = (e i).1.1 }))
