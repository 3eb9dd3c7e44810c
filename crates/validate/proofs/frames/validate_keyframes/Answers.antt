-- `validate::frames::validate_keyframes` meets its contract: too few frames, or their first fault.
use mathlib.Core.Path.{refl}
use Rattle.ast.specs.Means.{opt_loop_view}
use Rattle.sheet.specs.Sheet.{loop_form}
use Rattle.sheet_decode.proofs.ReadLaws as laws
use Rattle.validate.proofs.FrameLaws as frames
use Rattle.validate.proofs.frames.validate_keyframes.Goals as goal

pub returns-then-count-lt2 : goal.returns-then-count-lt2
returns-then-count-lt2 c = λ at first h r. frames.few _ h (r _ c.skip_entries-end.ensures) (laws.optional loop_form opt_loop_view refl (λ a. refl) c.take_opt-next.ensures (λ m x r. search laws.given)) c.if-count-lt2.true

pub returns : goal.returns
returns c = λ at first h r. frames.enough _ h (r _ c.skip_entries-end.ensures) (laws.optional loop_form opt_loop_view refl (λ a. refl) c.take_opt-next.ensures (λ m x r. search laws.given)) c.if-count-lt2.false
