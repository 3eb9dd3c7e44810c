-- Tracks of frames, as they are written, are read.
use Prim.Native.Nat.{ℕ}
use mathlib.Core.Bool.{Bool, true, false, cond}
use mathlib.Core.List.{List, [], ◌∷◌, ◌++◌, append_assoc}
use mathlib.Core.Option.{Option, none, some}
use mathlib.Core.Path.{◌≡◌, refl, ap, ◌∙◌}
use lib.Dec.{eqb}
use borrow.Author.Tests.{eq-eqb}
use Rattle.digits.specs.Numeral.{Sort, float, percentage}
use Rattle.text.specs.Bytes.{bytes, same, one_of}
use Rattle.text.specs.Words.{find}
use Rattle.number.specs.Time.{Key, stored_time}
use Rattle.number.specs.Rounded.{time_rounded}
use Rattle.token.specs.Names.{is_keyword}
use Rattle.ast.specs.Tree.{LoopSpec, KeyframeTime, percent, seconds, KeyframeEntry}
use Rattle.error.specs.declared.Refusal.TheVariants.{Malformed}
use Rattle.grammar.specs.Rule.{if, ◌>>=◌, sees_byte, sees_name, sees_word, ends, eat, give}
use Rattle.grammar.specs.Values.{parse_easing}
use Rattle.grammar.specs.Grammar.{stored, keyed, parse_keyframe_time, keyframe_entry, Track, track_frame, track_step, parse_keyframes}
use Rattle.grammar.specs.Grammar.{track_loop as loop_rule}
use Rattle.pieces.specs.Pieces.{Piece, a_mark, Form, ahead, laid}
use Rattle.pieces.specs.Means.{AllFit}
use Rattle.pieces.proofs.SignLaws.{nearest-signed, percent-signed}
use Rattle.fresh.specs.Meaning.{EasingSense, named, cubic_bezier, steps, wiggle, rough, slow_mo}
use Rattle.fresh.specs.Meaning.{option_sense, FrameSense, TrackSense, frames_sense, leaf_sense, keyframes}
use Rattle.fresh.specs.Fresh.{mark, negative, minus_if, signed_by, f32, easing}
use Rattle.fresh.specs.Fresh.{time, frame_easing, frame, track_loop, more_frames, track, leaf_body}
use Rattle.fresh.proofs.ReadLaws.{Reads, Loops, IsMore, IsDone, gives, then, first, and, tallies, yes_if}
use Rattle.fresh.proofs.ReadLaws.{no_if, yes_fit, less, weaken_loops, the-mark, skips_mark}
use Rattle.fresh.proofs.ReadLaws.{skips_word, eats_mark, eats_none, in_group, loops, ends_at, again}
use Rattle.fresh.proofs.ValueLaws.{Quiet, quiet_mark, reads_any, reads-value, reads-easing, reads_loop, reads-ident}

-- ---- what stands first

easing-first : (form : Form) (e : EasingSense) (us : List Piece) (q : ℕ)
    → AllFit form (easing e us) → sees_name (laid form q (easing e us)) ≡ true
unfolding easing laid ahead same is_keyword find
easing-first form (named true x) us q f = refl
easing-first form (named false x) us q f = rw f.0.1
easing-first form (cubic_bezier a b c d) us q f = refl
easing-first form (steps n) us q f = refl
easing-first form (wiggle n) us q f = refl
easing-first form (rough a n) us q f = refl
easing-first form (slow_mo a b) us q f = refl

-- a number with its sign is no end and no word
number-ends : (form : Form) (k : Sort) (b : ℕ) (us : List Piece) (q : ℕ)
    → (ends (laid form q (signed_by k (negative b) b us)) ≡ false) × (sees_word "loop" (laid form q (signed_by k (negative b) b us)) ≡ false)
unfolding signed_by minus_if laid ahead one_of
number-ends form k b us q = go (negative b)
  where
    go : (x : Bool) → (ends (laid form q (signed_by k x b us)) ≡ false) × (sees_word "loop" (laid form q (signed_by k x b us)) ≡ false)
    go true = (refl, refl)
    go false = (refl, refl)

time-ends : (form : Form) (k : KeyframeTime) (us : List Piece) (q : ℕ)
    → (ends (laid form q (time k us)) ≡ false) × (sees_word "loop" (laid form q (time k us)) ≡ false)
unfolding time f32
time-ends form (percent b) us q = number-ends form percentage b _ q
time-ends form (seconds b) us q = number-ends form float b us q

frame-first : (form : Form) (f : FrameSense) (us : List Piece) (q : ℕ)
    → (ends (laid form q (frame f us)) ≡ false) × (sees_word "loop" (laid form q (frame f us)) ≡ false)
unfolding frame
frame-first form f us q = time-ends form f.time _ q

sees-mark : (form : Form) (b : ℕ) (us : List Piece) (q : ℕ) → sees_byte b (laid form q (a_mark b ∷ us)) ≡ true
unfolding laid ahead
sees-mark form b us q = eq-eqb b b refl

sees_other : (form : Form) (b c : ℕ) (us : List Piece) → eqb b c ≡ false → (q : ℕ) → sees_byte c (laid form q (a_mark b ∷ us)) ≡ false
unfolding laid ahead
sees_other form b c us e q = e

-- what follows a frame: no name, and no `:` nor `(`
record Apart (form : Form) (us : List Piece) : Type 0 where
  quiet : Quiet form us
  name : (q : ℕ) → sees_name (laid form q us) ≡ false

apart-mark : (form : Form) (b : ℕ) (us : List Piece) → Quiet form (a_mark b ∷ us) → Apart form (a_mark b ∷ us)
unfolding laid ahead
apart-mark form b us h = record { quiet = h; name = λ q. refl }

-- the sense of a frame
abbrev frame_sense : List ℕ → KeyframeEntry Key → FrameSense
frame_sense s a = record { time = stored a.time; value = a.value; easing = option_sense s a.easing }

-- frames onto some that were read before, and the loop mode
abbrev FramesAre : List ℕ → List (KeyframeEntry Key) → List FrameSense → Option LoopSpec → Track → Type 0
FramesAre s acc fs o x = (gs : List (KeyframeEntry Key)) × (x ≡ (acc ++ gs, o)) × (frames_sense stored s gs ≡ fs)

module _ {form : Form} {s : List ℕ} where
  -- ---- a time

  no_percent : (b : Bool) (us : List Piece)
      → Reads form s 0 (cond b (give false) (eat "%")) (mark ":" ∷ us) (mark ":" ∷ us) (λ p. p ≡ false)
  unfolding laid ahead
  no_percent true us = gives refl
  no_percent false us = eats_none 37 _ (λ q. refl)

  reads-keyed : (k : Key) {ps : List Piece} {Q : Key → Type 0} → Q k → Reads form s 0 (keyed k) ps ps Q
  unfolding keyed
  reads-keyed k h = tallies (time_rounded k) (gives h)

  reads-time : (k : KeyframeTime) (us : List Piece)
      → Reads form s 1 parse_keyframe_time (time k (mark ":" ∷ us)) (mark ":" ∷ us) (λ x. stored x ≡ k)
  unfolding parse_keyframe_time time f32 stored stored_time
  reads-time (percent b) us =
      then {d = 1} (reads_any percentage Malformed b _) (λ w h. rw (h.1, h.2.0)
      (then {d = 0} (eats_mark 37 _ refl) (λ p g. rw g (reads-keyed _ (ap percent (percent-signed w.0 _ h.0 h.2.1 ∙ h.3))))))
  reads-time (seconds b) us =
      then {d = 0} (reads_any float Malformed b _) (λ w h.
      first (no_percent w.1.point us) (λ p g. rw (g, h.1) (reads-keyed _ (ap seconds (nearest-signed w.0 _ h.0 h.2 ∙ h.3)))))

  -- ---- a frame

  frame-easing : (o : Option EasingSense) (us : List Piece) → Apart form us
      → Reads form s 0 (if sees_name (parse_easing >>= λ e. give (some e)) (give none)) (frame_easing o us) us (λ o'. option_sense s o' ≡ o)
  unfolding frame_easing
  frame-easing none us h = no_if sees_name _ _ h.name (gives refl)
  frame-easing (some e) us h =
      less (yes_fit sees_name _ _ (λ q f. easing-first form e us q f) (then (reads-easing e us h.quiet) (λ x g. gives (ap some g))))

  reads-frame : (f : FrameSense) (us : List Piece) → Apart form us → Reads form s 1 keyframe_entry (frame f us) us (λ x. frame_sense s x ≡ f)
  unfolding keyframe_entry frame
  reads-frame f us h =
      then (reads-time f.time _) (λ k g.
      and (the-mark 58 _ refl)
      (then (reads-value f.value _) (λ v i.
      then (frame-easing f.easing us h) (λ e j. gives (rw (g, i, j))))))

  -- ---- the steps of a track

  -- a frame and a `,`
  frame_comma : (f : FrameSense) (st : Track) (us : List Piece)
      → Reads form s 1 (track_step st) (frame f (mark "," ∷ us)) us
      (IsMore (λ x. (g : KeyframeEntry Key) × (x ≡ (st.0 ++ g ∷ [], st.1)) × (frame_sense s g ≡ f)))
  unfolding track_step track_frame
  frame_comma f st us =
      no_if ends _ _ (λ q. (frame-first form f _ q).0)
      (no_if (sees_word "loop") _ _ (λ q. (frame-first form f _ q).1)
      (then (reads-frame f _ (apart-mark form 44 us (quiet_mark form 44 us refl refl)))
      (λ g h.
      then {d = 0}
      (yes_if (sees_byte 44) _ _ (sees-mark form 44 us) (and (skips_mark 44 us refl) (gives {Q = λ (c : Bool). c ≡ true} refl)))
      (λ c i. rw i (gives (g, refl, h))))))

  -- the last frame
  frame-last : (f : FrameSense) (st : Track) (us : List Piece)
      → Reads form s 1 (track_step st) (frame f (mark "}" ∷ us)) (mark "}" ∷ us)
      (IsDone (λ x. (g : KeyframeEntry Key) × (x ≡ (st.0 ++ g ∷ [], st.1)) × (frame_sense s g ≡ f)))
  unfolding track_step track_frame
  frame-last f st us =
      no_if ends _ _ (λ q. (frame-first form f _ q).0)
      (no_if (sees_word "loop") _ _ (λ q. (frame-first form f _ q).1)
      (then (reads-frame f _ (apart-mark form 125 us (quiet_mark form 125 us refl refl)))
      (λ g h.
      then {d = 0} (no_if (sees_byte 44) _ _ (sees_other form 125 44 us refl) (eats_none 59 _ (sees_other form 125 59 us refl)))
      (λ c i. rw i (gives (g, refl, h))))))

  loop-step : (m : LoopSpec) (st : Track) (us : List Piece)
      → Reads form s 1 (track_step st) (track_loop m (mark "}" ∷ us)) (mark "}" ∷ us) (IsMore (λ x. x ≡ (st.0, some m)))
  unfolding track_step loop_rule track_loop laid ahead same
  loop-step m st us =
      no_if ends _ _ (λ q. refl)
      (yes_if (sees_word "loop") _ _ (λ q. refl)
      (and (skips_word (bytes "loop") _)
      (and (the-mark 58 _ refl)
      (then (reads_loop m _ (quiet_mark form 125 us refl refl)) (λ x h. and (eats_none 44 _ (λ q. refl)) (gives (rw h)))))))

  track-ends : (st : Track) (us : List Piece) {Q : Track → Type 0} → Q st → Loops form s track_step st (mark "}" ∷ us) (mark "}" ∷ us) Q
  unfolding track_step laid ahead one_of
  track-ends st us h = ends_at (yes_if ends _ _ (λ q. refl) (gives h))

  last-case : (f : FrameSense) (acc : List (KeyframeEntry Key)) (us : List Piece)
      → Loops form s track_step (acc, none) (frame f (mark "}" ∷ us)) (mark "}" ∷ us) (FramesAre s acc (f ∷ []) none)
  last-case f acc us =
      weaken_loops (ends_at (frame-last f (acc, none) us)) (λ x h. (h.0 ∷ [], h.1, ap (λ (z : FrameSense). z ∷ []) h.2))

  loop_case : (f : FrameSense) (m : LoopSpec) (acc : List (KeyframeEntry Key)) (us : List Piece)
      → Loops form s track_step (acc, none) (frame f (mark "," ∷ track_loop m (mark "}" ∷ us))) (mark "}" ∷ us)
      (FramesAre s acc (f ∷ []) (some m))
  loop_case f m acc us =
      again (frame_comma f (acc, none) (track_loop m (mark "}" ∷ us)))
      (λ x h. rw h.1
      (again (loop-step m (acc ++ h.0 ∷ [], none) us)
      (λ y g. rw g
      (track-ends _ us (h.0 ∷ [], refl, ap (λ (z : FrameSense). z ∷ []) h.2)))))

  more-case : (f e : FrameSense) (fs : List FrameSense) (o : Option LoopSpec) (acc : List (KeyframeEntry Key)) (ps us : List Piece)
      → ((acc : List (KeyframeEntry Key)) → Loops form s track_step (acc, none) ps us (FramesAre s acc (e ∷ fs) o))
      → Loops form s track_step (acc, none) (frame f (mark "," ∷ ps)) us (FramesAre s acc (f ∷ e ∷ fs) o)
  more-case f e fs o acc ps us ih =
      again (frame_comma f (acc, none) ps)
      (λ x h. rw h.1
      (weaken_loops (ih (acc ++ h.0 ∷ []))
      (λ y g.
      (h.0 ∷ g.0, g.1 ∙ ap (λ (l : List (KeyframeEntry Key)). (l, o)) (append_assoc acc (h.0 ∷ []) g.0), (rw (h.2, g.2))))))

  frames : (fs : List FrameSense) (f : FrameSense) (o : Option LoopSpec) (acc : List (KeyframeEntry Key)) (us : List Piece)
      → Loops form s track_step (acc, none) (frame f (more_frames fs o (mark "}" ∷ us))) (mark "}" ∷ us) (FramesAre s acc (f ∷ fs) o)
  unfolding more_frames
  frames [] f none acc us = last-case f acc us
  frames [] f (some m) acc us = loop_case f m acc us
  frames (e ∷ fs) f o acc us = more-case f e fs o acc (frame e (more_frames fs o (mark "}" ∷ us))) (mark "}" ∷ us) (λ a. frames fs e o a us)

  tracks : (fs : List FrameSense) (o : Option LoopSpec) (us : List Piece)
      → Loops form s track_step ([], none) (track fs o (mark "}" ∷ us)) (mark "}" ∷ us)
      (λ x. (gs : List (KeyframeEntry Key)) × (x ≡ (gs, o)) × (frames_sense stored s gs ≡ fs))
  unfolding track
  tracks [] none us = track-ends _ us ([], refl, refl)
  tracks [] (some m) us = again (loop-step m ([], none) us) (λ x h. rw h (track-ends _ us ([], refl, refl)))
  tracks (f ∷ fs) o us = frames fs f o [] us

  -- ---- keyframes, which leave their `;`

  pub reads_keyframes : (d : TrackSense) (us : List Piece)
      → Reads form s 1 parse_keyframes (leaf_body (keyframes d) us) (mark ";" ∷ us) (λ l. leaf_sense stored s l ≡ keyframes d)
  unfolding leaf_body parse_keyframes one_of
  reads_keyframes d us =
      then (reads-ident d.target _) (λ x h.
      then (in_group 123 125 refl refl refl (loops (tracks d.frames d.loop_mode (mark ";" ∷ us)))) (λ st g.
      gives (rw (g.1, h, g.2))))
