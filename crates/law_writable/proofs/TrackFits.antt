-- The tracks that a rule reads can be written.
use Prim.Native.Nat.{ℕ}
use mathlib.Core.Bool.{Bool, true, false, ◌&&◌}
use mathlib.Core.List.{List, [], ◌∷◌, ◌++◌}
use mathlib.Core.Option.{Option, none, some}
use mathlib.Core.Path.{◌≡◌, refl}
use Rattle.text.specs.Bytes.{one_of}
use Rattle.number.specs.Number.{Written, nearest, bits}
use Rattle.number.specs.Number.{percent as hundredths}
use Rattle.number.specs.Rounded.{time_rounded}
use Rattle.number.specs.Time.{Key, stored_time}
use Rattle.codec.proofs.Laws.{All}
use Rattle.token.proofs.WholeLaws.{never}
use Rattle.ast.specs.Tree.{LoopSpec, percent, seconds, KeyframeEntry}
use Rattle.grammar.specs.Rule.{if, ◌>>=◌, give, sees, sees_name, sees_word, ends, go_on}
use Rattle.grammar.specs.Values.{parse_easing}
use Rattle.grammar.specs.Grammar.{stored, keyed, parse_keyframe_time, keyframe_entry, Track, track_loop, track_frame, track_step, parse_keyframes}
use Rattle.digits.specs.Numeral.{all, percentage}
use Rattle.pieces.specs.Pieces.{Form, word_like}
use Rattle.pieces.specs.Means.{InText, Complete}
use Rattle.pieces.proofs.SignLaws.{percent-signed, percent-plain}
use Rattle.fresh.specs.Meaning.{FrameSense, option_sense, frames_sense}
use Rattle.fresh.specs.Fresh as pieces
use Rattle.fresh.specs.Fresh.{frame, more_frames, track, leaf_body}
use Rattle.law_rules.proofs.FieldLaws.{On}
use Rattle.law_rules.proofs.AlwaysLaws.{Always, Next-of, gives, refuses, then, and, tallies}
use Rattle.law_rules.proofs.AlwaysLaws.{weaken, tests, conds, skips, the-mark, eats, in_group}
use Rattle.law_rules.proofs.AlwaysLaws.{repeats}
use Rattle.law_writable.proofs.ValueFits.{Fit, ◌▸◌, fit-one, fit_none, fit_mark, signed-fits, a_number_lem, ident-fits, nearest-fits}
use Rattle.law_writable.proofs.ValueFits.{value-fits, loop_fits}
use Rattle.law_writable.proofs.FieldFits.{easing-fits}
use Rattle.law_writable.proofs.LeafFits.{LeafFits}

-- ---- how a track is written

module _ (form : Form) where
  abbrev FramesFit : List FrameSense → Type 0
  FramesFit fs = All (λ f. Fit form (frame f)) fs

  abbrev LoopFits : Option LoopSpec → Type 0
  LoopFits o = On (λ m. Fit form (pieces.loop_mode m)) o

  loop-written : (m : LoopSpec) → Fit form (pieces.loop_mode m) → Fit form (pieces.track_loop m)
  unfolding pieces.track_loop word_like all one_of
  loop-written m h = fit-one refl ▸ fit_mark 58 refl ▸ h

  more_fit : (fs : List FrameSense) (o : Option LoopSpec) → FramesFit fs → LoopFits o → Fit form (more_frames fs o)
  unfolding more_frames one_of
  more_fit [] none h k = fit_none
  more_fit [] (some m) h k = fit_mark 44 refl ▸ loop-written m k
  more_fit (f ∷ fs) o h k = fit_mark 44 refl ▸ h.0 ▸ more_fit fs o h.1 k

  track-fits : (fs : List FrameSense) (o : Option LoopSpec) → FramesFit fs → LoopFits o → Fit form (track fs o)
  unfolding track
  track-fits [] none h k = fit_none
  track-fits [] (some m) h k = loop-written m k
  track-fits (f ∷ fs) o h k = h.0 ▸ more_fit fs o h.1 k

  frames-more : (u : List ℕ) (xs : List (KeyframeEntry Key)) (x : KeyframeEntry Key) → FramesFit (frames_sense stored u xs)
      → FramesFit (frames_sense stored u (x ∷ [])) → FramesFit (frames_sense stored u (xs ++ x ∷ []))
  frames-more u [] x h p = p
  frames-more u (y ∷ xs) x h p = (h.0, frames-more u xs x h.1 p)

-- ---- times

module _ {form : Form} (complete : Complete form) where
  percent-written : (s : Bool) (w : Written) → InText w → w.point ≡ false
      → Fit form (pieces.time (percent (bits (hundredths s w.digits))))
  unfolding pieces.time one_of
  percent-written s w x e =
      let h : Fit form (pieces.signed_by percentage (pieces.negative (bits (hundredths s w.digits))) (bits (hundredths s w.digits))) =
      rw (percent-signed s w.digits (bits (hundredths false w.digits)) refl)
      (signed-fits form percentage s _ (percent-plain w) (complete.percents w x e))
      in
      h ▸ fit_mark 37 refl

  seconds_written : (s : Bool) (w : Written) → InText w → Fit form (pieces.time (seconds (bits (nearest s w))))
  unfolding pieces.time
  seconds_written s w x = nearest-fits complete s w x

  stored-fits : (p s : Bool) (w : Written) → InText w → (p ≡ true → w.point ≡ false)
      → Fit form (pieces.time (stored (record { percent = p; negative = s; written = w })))
  unfolding stored stored_time
  stored-fits true s w x e = percent-written s w x (e refl)
  stored-fits false s w x e = seconds_written s w x

  module _ (u : List ℕ) where
    time-fits : Always u parse_keyframe_time (λ k. Fit form (pieces.time (stored k)))
    unfolding parse_keyframe_time keyed
    time-fits =
        then a_number_lem (λ w x.
        then {R = λ p. p ≡ true → w.1.point ≡ false}
        (conds w.1.point (λ e. gives (λ f. absurd (never f))) (λ e. weaken (eats 37) (λ p y f. e))) (λ p y.
        conds (p && w.1.suffix) (λ e. refuses)
        (λ e. tallies (time_rounded (record { percent = p; negative = w.0; written = w.1 })) (gives (stored-fits p w.0 w.1 x y)))))

    -- ---- frames

    abbrev FrameFits : KeyframeEntry Key → Type 0
    FrameFits x = FramesFit form (frames_sense stored u (x ∷ []))

    frame-written : (x : KeyframeEntry Key) → Fit form (pieces.time (stored x.time)) → Fit form (pieces.value x.value)
        → Fit form (pieces.frame_easing (option_sense u x.easing)) → FrameFits x
    unfolding frame one_of
    frame-written x a b c = (a ▸ fit_mark 58 refl ▸ b ▸ c, tt)

    eased : Always u (if sees_name (parse_easing >>= λ e. give (some e)) (give none)) (λ o. Fit form (pieces.frame_easing (option_sense u o)))
    unfolding pieces.frame_easing
    eased = tests sees_name (then (easing-fits complete u) (λ e h. gives h)) (gives fit_none)

    entry-fits : Always u keyframe_entry FrameFits
    unfolding keyframe_entry
    entry-fits =
        then time-fits (λ t a. and (the-mark 58)
        (then (value-fits complete) (λ v b.
        then eased (λ e c. gives (frame-written (record { time = t; value = v; easing = e }) a b c)))))

    -- ---- tracks

    record TrackFits (s : Track) : Type 0 where
      frames : FramesFit form (frames_sense stored u s.0)
      loop_mode : LoopFits form s.1

    goes_on : (c : Bool) (s : Track) → TrackFits s → Next-of TrackFits (go_on c s)
    goes_on true s h = h
    goes_on false s h = h

    step_fits : (s : Track) → TrackFits s → Always u (track_step s) (Next-of TrackFits)
    unfolding track_step track_loop track_frame
    step_fits s h =
        tests ends (gives h)
        (tests (sees_word "loop")
        (and skips
        (and (the-mark 58) (then (loop_fits complete) (λ m k. and (eats 44) (gives (record { frames = h.frames; loop_mode = k }))))))
        (then entry-fits
        (λ f k.
        then {R = λ c. Unit {0}} (tests (sees ",") (and skips (gives {a = true} tt)) (eats 59))
        (λ c x.
        gives (goes_on c (s.0 ++ f ∷ [], s.1) (record { frames = frames-more form u s.0 f h.frames k; loop_mode = h.loop_mode }))))))

    pub keyframes_fits : LeafFits complete u parse_keyframes
    unfolding parse_keyframes leaf_body one_of
    keyframes_fits =
        then ident-fits (λ x a.
        then (in_group 123 refl (repeats TrackFits track_step step_fits (record { frames = tt; loop_mode = tt }))) (λ s h.
        gives (a ▸ fit_mark 123 refl ▸ track-fits form _ s.1 h.frames h.loop_mode ▸ fit_mark 125 refl ▸ fit_mark 59 refl)))
