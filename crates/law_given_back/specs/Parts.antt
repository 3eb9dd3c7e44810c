-- 02 (f): what is left out of an easing, a pattern or a frame is left out of what has it.
use Rattle.std.specs.Prelude.{ℕ, List, ◌∷◌, ◌++◌, ◌≡◌}
use Rattle.std.proofs.Math.Option.{Option, none, some}
use Rattle.ast.specs.Tree.{LoopSpec, StaggerPatternSpec, stagger}
use Rattle.fresh.specs.Meaning.{EasingSense, FrameSense, LeafSense, tween, spring, keyframes, path, morph, draw, color, waveform, preset}
use Rattle.fresh.specs.Meaning.{label, at}
use Rattle.fresh.specs.Fresh.{easing, frame, leaf_body, pattern, box_body}
use Rattle.law_given_back.specs.Omitted.{tweens, paths, morphs, draws, colors, presets, Shortens}

-- a leaf's own easing
abbrev pub easing_of : LeafSense → Option EasingSense
easing_of (tween d) = d.easing
easing_of (spring d) = none
easing_of (keyframes d) = none
easing_of (path d) = d.easing
easing_of (morph d) = d.easing
easing_of (draw d) = d.easing
easing_of (color d) = d.easing
easing_of (waveform d) = none
easing_of (preset d) = d.easing
easing_of (label x) = none
easing_of (at d) = none

-- the leaf with another
abbrev pub with_easing : LeafSense → EasingSense → LeafSense
with_easing (tween d) e = tween (tweens.having d (d.duration, (some e, (tweens.values d).1.1)))
with_easing (spring d) e = spring d
with_easing (keyframes d) e = keyframes d
with_easing (path d) e = path (paths.having d (d.duration, (some e, (paths.values d).1.1)))
with_easing (morph d) e = morph (morphs.having d (d.samples, (d.duration, (some e, tt))))
with_easing (draw d) e = draw (draws.having d (d.duration, (some e, tt)))
with_easing (color d) e = color (colors.having d (d.duration, (d.space, (some e, tt))))
with_easing (waveform d) e = waveform d
with_easing (preset d) e = preset (presets.having d (d.duration, (some e, tt)))
with_easing (label x) e = label x
with_easing (at d) e = at d

abbrev pub track : List ℕ → List FrameSense → Option LoopSpec → LeafSense
track target frames loop_mode = keyframes (record { target = target; frames = frames; loop_mode = loop_mode })

pub record PartsShorten : Type 0 where
  pub in_leaf : (l : LeafSense) (e e' : EasingSense) → easing_of l ≡ some e → Shortens easing e e' → Shortens leaf_body l (with_easing l e')
  pub in_frame : (f : FrameSense) (e e' : EasingSense) → f.easing ≡ some e → Shortens easing e e'
      → Shortens frame f (record { time = f.time; value = f.value; easing = some e' })
  pub in_track : (target : List ℕ) (before : List FrameSense) (f f' : FrameSense) (behind : List FrameSense) (o : Option LoopSpec)
      → Shortens frame f f' → Shortens leaf_body (track target (before ++ (f ∷ behind)) o) (track target (before ++ (f' ∷ behind)) o)
  pub in_stagger : (p p' : StaggerPatternSpec) (d : Option ℕ) → Shortens pattern p p'
      → Shortens box_body (stagger (some p) d) (stagger (some p') d)
