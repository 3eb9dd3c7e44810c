-- `back_leaves::frames::copy_track` meets its contract.
use Prim.Native.Nat.{suc, ◌-◌}
use mathlib.Core.Bool.{false}
use mathlib.Core.List.{[]}
use mathlib.Core.Path.{◌≡◌, refl, ◌∙◌}
use native.Mathlib.Omega.{arith}
use lib.ListN.{length}
use Rattle.codec.specs.Codec.{each}
use Rattle.sheet.specs.Sheet.{entry_form}
use Rattle.sheet_decode.proofs.ReadLaws.{counted, each_none}
use Rattle.fresh.specs.Fresh.{track}
use Rattle.back_copying.proofs.CopyLaws.{renamed}
use Rattle.back_leaves.specs.Means.{frames_of, comma_frames, joined_frames, loop_by}
use Rattle.back_leaves.proofs.ThenLaws.{known_then, keyed-then, is_empty, some_copied, track_is, track_of}
use Rattle.back_leaves.proofs.frames.copy_track.Goals as goal

pub returns-then-n-eq0 : goal.returns-then-n-eq0
returns-then-n-eq0 c =
    known_then
    {v = []}
    (λ x. track (frames_of c.args.text.now x.0) x.1)
    (counted length (each (entry_form (length c.args.text.now))) c.take_field-count.ensures.reads
    (rw c.if-n-eq0.true (each_none (entry_form (length c.args.text.now)) _ _ _)))
    (renamed c.copy_track_loop.ensures (λ o ps. track_is [] o ps))

pub returns : goal.returns
returns c =
    let t = c.args.text.now in
    let v = c.take_field-count.result.v in
    let h : v ≡ suc (v - 1) = omega (arith, c.if-n-eq0.false) in
    keyed-then is_empty
    (λ xs. joined_frames (frames_of t xs))
    loop_by
    (λ x. track (frames_of t x.0) x.1)
    {x = false}
    (λ a b ps. track_of t a b ps)
    (counted length (each (entry_form (length t))) c.take_field-count.ensures.reads
    (rw h
    (some_copied (λ xs. comma_frames (frames_of t xs)) (λ xs. joined_frames (frames_of t xs)) (v - 1) (λ x xs ps. refl)
    c.copy_frame-at.ensures c.copy_more_frames-at.ensures)))
    (c.copy_more_frames-at.ensures.kept ∙ c.copy_frame-at.ensures.kept)
    c.copy_track_loop-2.ensures
