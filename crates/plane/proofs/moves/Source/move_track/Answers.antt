-- `plane::moves::Source::move_track` meets its contract: the frames behind their count, then the loop mode.
use mathlib.Core.Path.{refl}
use Rattle.ast.specs.Means.{opt_loop_view}
use Rattle.sheet.specs.Sheet.{loop_form}
use Rattle.sheet_decode.proofs.ReadLaws as laws
use Rattle.plane.proofs.RecordMoveLaws.{frames-before, loop_passed}
use Rattle.plane.proofs.moves.Source.move_track.Goals as goal

pub move_frames-frames-requires : goal.move_frames-frames-requires
move_frames-frames-requires c = frames-before c.requires c.take_field-count.ensures.reads

pub returns : goal.returns
returns c =
    λ d. loop_passed d (c.move_frames-frames.ensures (frames-before d c.take_field-count.ensures.reads))
    (laws.optional loop_form opt_loop_view refl (λ a. refl) c.take_opt-loop_mode.ensures (λ m x r. search laws.given))
