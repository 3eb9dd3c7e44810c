-- `back_leaves::frames::copy_frame_easing` meets its contract.
use mathlib.Core.Path.{refl}
use Rattle.sheet.specs.Sheet.{easing_form}
use Rattle.fresh.specs.Meaning.{option_sense}
use Rattle.fresh.specs.Fresh.{frame_easing}
use Rattle.back_copying.proofs.CopyLaws.{is_absent, is_present}
use Rattle.back_leaves.proofs.frames.copy_frame_easing.Goals as goal

pub returns-then-k-eq0 : goal.returns-then-k-eq0
unfolding frame_easing
returns-then-k-eq0 c =
    is_absent (easing_form _) (λ o. frame_easing (option_sense c.args.text.now o)) c.take_byte-k.ensures c.if-k-eq0.true
    (λ ps. refl)

pub returns : goal.returns
unfolding frame_easing
returns c =
    is_present (easing_form _) (λ o. frame_easing (option_sense c.args.text.now o)) c.take_byte-k.ensures
    c.if-k-eq0.false c.copy_easing.ensures
