-- 02 (f): what is left out of an easing, a pattern or a frame is left out of what has it.
use Prim.Native.Nat.{ℕ}
use mathlib.Core.List.{List, [], ◌∷◌, ◌++◌}
use mathlib.Core.Option.{Option, none, some, some-injective}
use mathlib.Core.Path.{◌≡◌, refl, sym, ap, ◌∙◌}
use native.Mathlib.Omega.{arith}
use Rattle.ast.specs.Tree.{LoopSpec, StaggerPatternSpec, stagger}
use Rattle.pieces.specs.Pieces.{Piece}
use Rattle.fresh.specs.Meaning.{EasingSense, FrameSense, LeafSense, tween, spring, keyframes, path, morph, draw, color, waveform, preset}
use Rattle.fresh.specs.Meaning.{label, at, TrackSense}
use Rattle.fresh.specs.Fresh as pieces
use Rattle.fresh.specs.Fresh.{f32, u32, choose, easing, field, unless_is, frame_easing, frame, more_frames, comma_if, leaf_body}
use Rattle.grammar.specs.Grammar.{space_names}
use Rattle.fresh.specs.Fresh.{pattern, opening, box_body}
use Rattle.law_given_back.specs.Omitted.{LeftOut, Shortens}
use Rattle.law_given_back.specs.Parts.{easing_of, with_easing, track, PartsShorten}
use Rattle.law_given_back.proofs.PutLaws.{◌▹◌, one, f32_puts, u32_puts, value_puts, choose_puts, time_puts, frame_puts, further}
use Rattle.law_given_back.proofs.OmitLaws.{field_puts}

-- ---- an easing in a leaf

module _ (e e' : EasingSense) (s : Shortens easing e e') where
  absent : {A : Type 0} → none ≡ some e → A
  absent h = absurd (let z : ◌≡◌ {A = ℕ} 0 1 = cc in omega arith)

  behind : (us : List Piece) → LeftOut (field "easing" easing (some e) us) (field "easing" easing (some e') us)
  unfolding field
  behind us = further (one ▹ one) (s.1 us)

  comma : (a : Option ℕ) (us : List Piece) → LeftOut
      (comma_if a (some e) (field "duration" f32 a (field "easing" easing (some e) us)))
      (comma_if a (some e') (field "duration" f32 a (field "easing" easing (some e') us)))
  unfolding comma_if
  comma none us = further (one ▹ field_puts "duration" f32 f32_puts none) (behind us)
  comma (some a) us = further (one ▹ field_puts "duration" f32 f32_puts (some a)) (behind us)

  leaf_left : (l : LeafSense) → easing_of l ≡ some e → (us : List Piece) → LeftOut (leaf_body l us) (leaf_body (with_easing l e') us)
  unfolding leaf_body
  leaf_left (tween d) h us =
      rw h (further (one ▹ one ▹ value_puts d.from ▹ one ▹ value_puts d.to
      ▹ field_puts "duration" f32 f32_puts (some d.duration)) (behind _))
  leaf_left (spring d) h us = absent h
  leaf_left (keyframes d) h us = absent h
  leaf_left (path d) h us = rw h (further (one ▹ one ▹ one ▹ field_puts "duration" f32 f32_puts (some d.duration)) (behind _))
  leaf_left (morph d) h us =
      rw h (further (one ▹ one ▹ one ▹ field_puts "samples" u32 u32_puts (unless_is 32 d.samples)
      ▹ field_puts "duration" f32 f32_puts (some d.duration)) (behind _))
  leaf_left (draw d) h us = rw h (further (one ▹ field_puts "duration" f32 f32_puts (some d.duration)) (behind _))
  leaf_left (color d) h us =
      rw h (further (one ▹ one ▹ one ▹ one ▹ one ▹ field_puts "duration" f32 f32_puts (some d.duration)
      ▹ field_puts "space" (choose space_names) (choose_puts space_names) (unless_is 0 d.space)) (behind _))
  leaf_left (waveform d) h us = absent h
  leaf_left (preset d) h us = rw h (further one (comma d.duration (pieces.mark ";" ∷ us)))
  leaf_left (label x) h us = absent h
  leaf_left (at d) h us = absent h

  has : (l : LeafSense) → easing_of l ≡ some e → easing_of (with_easing l e') ≡ some e'
  has (tween d) h = refl
  has (spring d) h = absent h
  has (keyframes d) h = absent h
  has (path d) h = refl
  has (morph d) h = refl
  has (draw d) h = refl
  has (color d) h = refl
  has (waveform d) h = absent h
  has (preset d) h = refl
  has (label x) h = absent h
  has (at d) h = absent h

  leaf_shortens : (l : LeafSense) → easing_of l ≡ some e → Shortens leaf_body l (with_easing l e')
  leaf_shortens l h = ((λ q. s.0 (some-injective e' e (sym (has l h) ∙ ap easing_of q ∙ h))), leaf_left l h)

  frame_shortens : (f : FrameSense) → f.easing ≡ some e → Shortens frame f (record { time = f.time; value = f.value; easing = some e' })
  unfolding frame frame_easing
  frame_shortens f h = (
    (λ q. s.0 (some-injective e' e (ap (λ (g : FrameSense). g.easing) q ∙ h))),
    λ us. rw h (further (time_puts f.time ▹ one ▹ value_puts f.value) (s.1 us)),
  )

-- ---- a frame in a track

module _ (f f' : FrameSense) (s : Shortens frame f f') (frames : List FrameSense) (o : Option LoopSpec) (us : List Piece) where
  more_left : (before : List FrameSense) → LeftOut (more_frames (before ++ (f ∷ frames)) o us) (more_frames (before ++ (f' ∷ frames)) o us)
  unfolding more_frames
  more_left [] = further one (s.1 (more_frames frames o us))
  more_left (g ∷ before) = further (one ▹ frame_puts g) (more_left before)

  track_left : (before : List FrameSense)
      → LeftOut (pieces.track (before ++ (f ∷ frames)) o us) (pieces.track (before ++ (f' ∷ frames)) o us)
  unfolding pieces.track
  track_left [] = s.1 (more_frames frames o us)
  track_left (g ∷ before) = further (frame_puts g) (more_left before)

same-frame : (before : List FrameSense) (f f' : FrameSense) (frames : List FrameSense)
    → before ++ (f' ∷ frames) ≡ before ++ (f ∷ frames) → f' ≡ f
same-frame [] f f' frames q = cc
same-frame (g ∷ before) f f' frames q = same-frame before f f' frames cc

track_shortens : (target : List ℕ) (before : List FrameSense) (f f' : FrameSense) (frames : List FrameSense) (o : Option LoopSpec)
    → Shortens frame f f' → Shortens leaf_body (track target (before ++ (f ∷ frames)) o) (track target (before ++ (f' ∷ frames)) o)
unfolding leaf_body
track_shortens target before f f' frames o s =
    let d : TrackSense = record { target = target; frames = before ++ (f ∷ frames); loop_mode = o } in
    let d' : TrackSense = record { target = target; frames = before ++ (f' ∷ frames); loop_mode = o } in (
      (λ q. let z : d' ≡ d = cc in s.0 (same-frame before f f' frames (ap (λ (x : TrackSense). x.frames) z))),
      λ us. further (one ▹ one) (track_left f f' s frames o (pieces.mark "}" ∷ pieces.mark ";" ∷ us) before),
    )

-- ---- a pattern in a stagger

stagger_shortens : (p p' : StaggerPatternSpec) (d : Option ℕ) → Shortens pattern p p'
    → Shortens box_body (stagger (some p) d) (stagger (some p') d)
unfolding box_body opening
stagger_shortens p p' none s = ((λ q. s.0 cc), λ us. further (one ▹ one) (s.1 us))
stagger_shortens p p' (some a) s = (
  (λ q. s.0 cc),
  λ us. further (one ▹ one) (s.1 (pieces.mark "," ∷ pieces.spell "delay" ∷ pieces.mark ":" ∷ f32 a us)),
)

pub parts_shorten : PartsShorten
parts_shorten = record {
  in_leaf = λ l e e' h s. leaf_shortens e e' s l h;
  in_frame = λ f e e' h s. frame_shortens e e' s f h;
  in_track = track_shortens;
  in_stagger = stagger_shortens;
}
