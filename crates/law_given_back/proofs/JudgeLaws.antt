-- The checking rules ask for values, names and strings, and for no start: trees of the same sense are judged alike.
use Prim.Native.Nat.{ℕ, suc, ◌+◌}
use Prim.Native.String.{String}
use mathlib.Core.Bool.{Bool, false, ◌||◌, not}
use mathlib.Core.List.{List, [], ◌∷◌, ◌++◌}
use mathlib.Core.Option.{Option, none, some}
use mathlib.Core.Path.{◌≡◌, refl, sym, ap, ◌∙◌}
use lib.Dec.{eqb, ltb}
use lib.Ieee.{Float}
use lib.ListN.{length}
use Rattle.text.specs.Words.{or_else}
use Rattle.number.specs.Number.{f32}
use Rattle.number.specs.Time.{any_near}
use Rattle.easing.specs.Names.{is_easing}
use Rattle.presets.specs.Colors.{is_color}
use Rattle.presets.specs.Presets.{is_preset}
use Rattle.ast.specs.Tree.{EasingSpec, KeyframeTime, KeyframeEntry, Leaf, Nodes, records}
use Rattle.sheet.specs.Sheet.{Forest}
use Rattle.colors.specs.Css.{names_of}
use Rattle.checking.specs.Rules.{negative, not_positive, outside_unit, given, unknown_easing, mismatched, first, time_of}
use Rattle.checking.specs.Rules.{validate_tween, validate_spring, validate_frames, validate_keyframes, validate_path, validate_morph}
use Rattle.checking.specs.Rules.{validate_draw, validate_color, validate_waveform, validate_preset_call, validate_leaf, validate_container}
use Rattle.checking.specs.Rules.{at_ordinal, validate_nodes}
use Rattle.checking.specs.Checking.{answer_of, judged}
use Rattle.error.specs.declared.Refusal.{Refusal}
use Rattle.error.specs.declared.Refusal.TheVariants.{OutOfRange, ValueTypeMismatch, UnknownEasing}
use Rattle.error.specs.declared.Refusal.TheVariants.{UnknownPreset, InvalidColor, DuplicateTime, TooFewFrames}
use Rattle.fresh.specs.Meaning.{EasingSense, named, cubic_bezier, steps, wiggle, rough, slow_mo, FrameSense}
use Rattle.fresh.specs.Meaning.{LeafSense, tween, spring, keyframes, path, morph, draw, color, waveform, preset, label, at}
use Rattle.fresh.specs.Meaning.{Sense, no_nodes, leaf, box, option_sense, frames_sense, leaf_sense}
use Rattle.writing.specs.Back.{sense_of}

abbrev same : KeyframeTime → KeyframeTime
same k = k

-- ---- the rules, by the sense of a node

unfoldable unknown : EasingSense → Bool
unknown (named v x) = not (is_easing v x)
unknown (cubic_bezier a b c d) = false
unknown (steps n) = false
unknown (wiggle n) = false
unknown (rough a n) = false
unknown (slow_mo a b) = false

unfoldable of_frames : List Float → List FrameSense → Option Refusal
of_frames seen [] = none
of_frames seen (x ∷ xs) =
    let y = f32 (time_of x.time) in
    or_else (first ((any_near y seen, DuplicateTime) ∷ (given unknown x.easing, UnknownEasing) ∷ [])) (of_frames (seen ++ y ∷ []) xs)

module _ (names : List String) where
  unfoldable of_leaf : LeafSense → Option Refusal
  of_leaf (tween x) = first (
      (negative x.duration, OutOfRange) ∷ (mismatched x.from x.to, ValueTypeMismatch)
      ∷ (given unknown x.easing, UnknownEasing) ∷ (given negative x.time_scale, OutOfRange)
      ∷ (given negative x.delay, OutOfRange) ∷ [])
  of_leaf (spring x) = first (
      (mismatched x.from x.to, ValueTypeMismatch) ∷ (given negative x.stiffness, OutOfRange)
      ∷ (given not_positive x.mass, OutOfRange) ∷ (given not_positive x.epsilon, OutOfRange) ∷ [])
  of_leaf (keyframes x) = or_else (first ((ltb (length x.frames) 2, TooFewFrames) ∷ [])) (of_frames [] x.frames)
  of_leaf (path x) = first (
      (negative x.duration, OutOfRange) ∷ (given unknown x.easing, UnknownEasing)
      ∷ (given (λ p. outside_unit p.0 || outside_unit p.1) x.offset, OutOfRange) ∷ [])
  of_leaf (morph x) = first (
      (negative x.duration, OutOfRange) ∷ (eqb x.samples 0, OutOfRange) ∷ (given unknown x.easing, UnknownEasing) ∷ [])
  of_leaf (draw x) = first ((negative x.duration, OutOfRange) ∷ (given unknown x.easing, UnknownEasing) ∷ [])
  of_leaf (color x) = first (
      (negative x.duration, OutOfRange) ∷ (not (is_color names x.from), InvalidColor)
      ∷ (not (is_color names x.to), InvalidColor) ∷ (given unknown x.easing, UnknownEasing) ∷ [])
  of_leaf (waveform x) = validate_waveform x
  of_leaf (preset x) = first (
      (not (is_preset x.name), UnknownPreset) ∷ (given unknown x.easing, UnknownEasing)
      ∷ (given negative x.duration, OutOfRange) ∷ [])
  of_leaf (label x) = none
  of_leaf (at x) = none

  unfoldable count : Sense → ℕ
  count no_nodes = 0
  count (leaf l rest) = suc (count rest)
  count (box b inner rest) = suc (count inner + count rest)

  unfoldable of_nodes : ℕ → Sense → Option (Refusal × ℕ)
  of_nodes i no_nodes = none
  of_nodes i (leaf l rest) = or_else (at_ordinal i (of_leaf l)) (of_nodes (suc i) rest)
  of_nodes i (box b inner rest) =
      or_else (at_ordinal i (validate_container b)) (or_else (of_nodes (suc i) inner) (of_nodes (suc i + count inner) rest))

  -- ---- they are validate's

  module _ (t : List ℕ) where
    one-easing : (e : Option EasingSpec) → given (unknown_easing t) e ≡ given unknown (option_sense t e)
    unfolding unknown_easing unknown
    one-easing none = refl
    one-easing (some (EasingSpec.named v x)) = refl
    one-easing (some (EasingSpec.cubic_bezier a b c d)) = refl
    one-easing (some (EasingSpec.steps n)) = refl
    one-easing (some (EasingSpec.wiggle n)) = refl
    one-easing (some (EasingSpec.rough a n)) = refl
    one-easing (some (EasingSpec.slow_mo a b)) = refl

    frames-long : (xs : List (KeyframeEntry KeyframeTime)) → length xs ≡ length (frames_sense same t xs)
    frames-long [] = refl
    frames-long (x ∷ xs) = ap suc (frames-long xs)

    frames-judged : (seen : List Float) (xs : List (KeyframeEntry KeyframeTime))
        → validate_frames t seen xs ≡ of_frames seen (frames_sense same t xs)
    unfolding validate_frames of_frames
    frames-judged seen [] = refl
    frames-judged seen (x ∷ xs) = rw (one-easing x.easing, frames-judged (seen ++ f32 (time_of x.time) ∷ []) xs)

    leaf_judged : (l : Leaf KeyframeTime) → validate_leaf names t l ≡ of_leaf (leaf_sense same t l)
    unfolding validate_leaf of_leaf validate_tween validate_spring validate_keyframes validate_path validate_morph validate_draw validate_color
        validate_preset_call
    leaf_judged (Leaf.tween x) = rw (one-easing x.easing)
    leaf_judged (Leaf.spring x) = refl
    leaf_judged (Leaf.keyframes x) = rw (frames-long x.frames, frames-judged [] x.frames)
    leaf_judged (Leaf.path x) = rw (one-easing x.easing)
    leaf_judged (Leaf.morph x) = rw (one-easing x.easing)
    leaf_judged (Leaf.draw x) = rw (one-easing x.easing)
    leaf_judged (Leaf.color x) = rw (one-easing x.easing)
    leaf_judged (Leaf.waveform x) = refl
    leaf_judged (Leaf.preset x) = rw (one-easing x.easing)
    leaf_judged (Leaf.label x) = refl
    leaf_judged (Leaf.at x) = refl

    counted : (ns : Forest) → records ns ≡ count (sense_of t ns)
    unfolding count
    counted Nodes.none = refl
    counted (Nodes.leaf p l rest) = ap suc (counted rest)
    counted (Nodes.box p b inner rest) = (λ i. suc (counted inner i + counted rest i))

    nodes-judged : (i : ℕ) (ns : Forest) → validate_nodes names t i ns ≡ of_nodes i (sense_of t ns)
    unfolding validate_nodes of_nodes
    nodes-judged i Nodes.none = refl
    nodes-judged i (Nodes.leaf p l rest) = (λ j. or_else (at_ordinal i (leaf_judged l j)) (nodes-judged (suc i) rest j))
    nodes-judged i (Nodes.box p b inner rest) =
        let here = at_ordinal i (validate_container b) in
        ap (λ (k : ℕ). or_else here (or_else (validate_nodes names t (suc i) inner) (validate_nodes names t (suc i + k) rest))) (counted inner)
        ∙ (λ j. or_else here (or_else (nodes-judged (suc i) inner j) (nodes-judged (suc i + count (sense_of t inner)) rest j)))

pub judged_alike : (list : ℕ) (t u : List ℕ) (ns ms : Forest) → sense_of t ns ≡ sense_of u ms → judged list t ns ≡ judged list u ms
unfolding judged
judged_alike list t u ns ms e =
    ap answer_of
    (nodes-judged (names_of list) t 1 ns ∙ ap (of_nodes (names_of list) 1) e ∙ sym (nodes-judged (names_of list) u 1 ms))
