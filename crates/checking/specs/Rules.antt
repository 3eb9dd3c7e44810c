-- validate.rs: for each of its functions the list of its tests, in its order, each with its kind of refusal.
-- t is the text, and `names` the names of colours.
use Rattle.std.specs.Prelude.{ℕ, suc, ◌+◌, Bool, false, ◌&&◌, ◌||◌, not, cond, List, [], ◌∷◌, ◌++◌, ltb, eqb, length, Float}
use Prim.Native.String.{String}
use Rattle.std.proofs.Math.Option.{Option, none, some}
use Rattle.std.specs.Float.Ieee.{lt, le}
use Rattle.text.specs.Words.{or_else}
use Rattle.number.specs.Number.{f32}
use Rattle.number.specs.Time.{any_near}
use Rattle.easing.specs.Names.{is_easing}
use Rattle.presets.specs.Colors.{is_color}
use Rattle.presets.specs.Presets.{is_preset}
use Rattle.ast.specs.Tree.{
  noise,
  span_bytes,
  ValueExpr,
  component_count,
  EasingSpec,
  named,
  cubic_bezier,
  steps,
  wiggle,
  rough,
  slow_mo,
  KeyframeTime,
  percent,
  seconds,
  StaggerPatternSpec,
  grid,
  random,
  center_out,
  edges_in,
  KeyframeEntry,
  TweenSpec,
  SpringSpec,
  KeyframeSpec,
  PathSpec,
  MorphSpec,
  DrawSpec,
  ColorSpec,
  WaveformSpec,
  PresetCall,
  Leaf,
  tween,
  spring,
  keyframes,
  path,
  morph,
  draw,
  color,
  waveform,
  preset,
  label,
  at,
  Container,
  sequence,
  parallel,
  group,
  stagger,
  Nodes,
  leaf,
  box,
  records,
}
use Rattle.error.specs.declared.Refusal.{Refusal}
use Rattle.error.specs.declared.Refusal.TheVariants.{OutOfRange, ValueTypeMismatch, UnknownEasing}
use Rattle.error.specs.declared.Refusal.TheVariants.{UnknownPreset, InvalidColor, DuplicateTime, TooFewFrames, NoiseHeld}

-- ---- tests: comparisons as IEEE 754 has them

abbrev pub nought : Float
nought = f32 0

abbrev pub one : Float
one = f32 1065353216

-- `x < 0.0`
unfoldable pub negative : ℕ → Bool
negative x = lt (f32 x) nought

-- `x <= 0.0`
unfoldable pub not_positive : ℕ → Bool
not_positive x = le (f32 x) nought

-- `!(0.0..=1.0).contains(&x)`
unfoldable pub outside_unit : ℕ → Bool
outside_unit x = not (le nought (f32 x) && le (f32 x) one)

-- `if let Some(x)`
abbrev pub given : {A : Type 0} → (A → Bool) → Option A → Bool
given test none = false
given test (some a) = test a

-- validate_easing
unfoldable pub unknown_easing : List ℕ → EasingSpec → Bool
unknown_easing t (named variant s) = not (is_easing variant (span_bytes t s))
unknown_easing t (cubic_bezier a b c d) = false
unknown_easing t (steps n) = false
unknown_easing t (wiggle n) = false
unknown_easing t (rough s n) = false
unknown_easing t (slow_mo r p) = false

-- 01: "comparing .. counts", not kinds
abbrev pub mismatched : ValueExpr → ValueExpr → Bool
mismatched from to = not (eqb (component_count from) (component_count to))

-- the refusal of the first test that is true
unfoldable pub first : List (Bool × Refusal) → Option Refusal
first [] = none
first (c ∷ cs) = cond c.0 (some c.1) (first cs)

-- ---- the functions

-- validate_tween; validate_loop_mode refuses nothing
unfoldable pub validate_tween : List ℕ → TweenSpec → Option Refusal
validate_tween t x = first (
    (negative x.duration, OutOfRange) ∷ (mismatched x.from x.to, ValueTypeMismatch)
    ∷ (given (unknown_easing t) x.easing, UnknownEasing) ∷ (given negative x.time_scale, OutOfRange)
    ∷ (given negative x.delay, OutOfRange) ∷ [])

-- validate_spring
unfoldable pub validate_spring : SpringSpec → Option Refusal
validate_spring x = first (
    (mismatched x.from x.to, ValueTypeMismatch) ∷ (given negative x.stiffness, OutOfRange)
    ∷ (given not_positive x.mass, OutOfRange) ∷ (given not_positive x.epsilon, OutOfRange) ∷ [])

abbrev pub time_of : KeyframeTime → ℕ
time_of (percent x) = x
time_of (seconds x) = x

-- 01, "Duplicates": frames in order, the times before them given; "A frame's easing is checked after its time"
unfoldable pub validate_frames : List ℕ → List Float → List (KeyframeEntry KeyframeTime) → Option Refusal
validate_frames t seen [] = none
validate_frames t seen (x ∷ xs) =
    or_else (first ((any_near (f32 (time_of x.time)) seen, DuplicateTime) ∷ (given (unknown_easing t) x.easing, UnknownEasing) ∷ []))
    (validate_frames t (seen ++ f32 (time_of x.time) ∷ []) xs)

-- validate_keyframes
unfoldable pub validate_keyframes : List ℕ → KeyframeSpec KeyframeTime → Option Refusal
validate_keyframes t x = or_else (first ((ltb (length x.frames) 2, TooFewFrames) ∷ [])) (validate_frames t [] x.frames)

-- validate_path
unfoldable pub validate_path : List ℕ → PathSpec → Option Refusal
validate_path t x = first (
    (negative x.duration, OutOfRange) ∷ (given (unknown_easing t) x.easing, UnknownEasing)
    ∷ (given (λ p. outside_unit p.0 || outside_unit p.1) x.offset, OutOfRange) ∷ [])

-- validate_morph
unfoldable pub validate_morph : List ℕ → MorphSpec → Option Refusal
validate_morph t x = first (
    (negative x.duration, OutOfRange) ∷ (eqb x.samples 0, OutOfRange) ∷ (given (unknown_easing t) x.easing, UnknownEasing) ∷ [])

-- validate_draw
unfoldable pub validate_draw : List ℕ → DrawSpec → Option Refusal
validate_draw t x = first ((negative x.duration, OutOfRange) ∷ (given (unknown_easing t) x.easing, UnknownEasing) ∷ [])

-- validate_color
unfoldable pub validate_color : List String → List ℕ → ColorSpec → Option Refusal
validate_color names t x = first (
    (negative x.duration, OutOfRange) ∷ (not (is_color names (span_bytes t x.from)), InvalidColor)
    ∷ (not (is_color names (span_bytes t x.to)), InvalidColor) ∷ (given (unknown_easing t) x.easing, UnknownEasing) ∷ [])

-- validate_waveform; 02 (h): "checking names them as retired", "28 in checking, at that node, before its frequency rule"
unfoldable pub validate_waveform : WaveformSpec → Option Refusal
validate_waveform x = first ((eqb x.kind noise, NoiseHeld) ∷ (given negative x.frequency, OutOfRange) ∷ [])

-- validate_preset_call
unfoldable pub validate_preset_call : List ℕ → PresetCall → Option Refusal
validate_preset_call t x = first (
    (not (is_preset (span_bytes t x.name)), UnknownPreset) ∷ (given (unknown_easing t) x.easing, UnknownEasing)
    ∷ (given negative x.duration, OutOfRange) ∷ [])

-- validate_node, at a node that holds no others
unfoldable pub validate_leaf : List String → List ℕ → Leaf KeyframeTime → Option Refusal
validate_leaf names t (tween x) = validate_tween t x
validate_leaf names t (spring x) = validate_spring x
validate_leaf names t (keyframes x) = validate_keyframes t x
validate_leaf names t (path x) = validate_path t x
validate_leaf names t (morph x) = validate_morph t x
validate_leaf names t (draw x) = validate_draw t x
validate_leaf names t (color x) = validate_color names t x
validate_leaf names t (waveform x) = validate_waveform x
validate_leaf names t (preset x) = validate_preset_call t x
validate_leaf names t (label s) = none
validate_leaf names t (at x) = none

unfoldable pub empty_grid : StaggerPatternSpec → Bool
empty_grid (grid cols rows origin) = eqb cols 0 || eqb rows 0
empty_grid (random seed min max) = false
empty_grid center_out = false
empty_grid edges_in = false

-- validate_node, at a container, the nodes in it left out
unfoldable pub validate_container : Container → Option Refusal
validate_container sequence = none
validate_container parallel = none
validate_container (group mode) = none
validate_container (stagger pattern delay) = first ((given empty_grid pattern, OutOfRange) ∷ [])

-- ---- 01: "nodes in preorder, each rule in validate.rs order", refused at the record's ordinal

abbrev pub at_ordinal : ℕ → Option Refusal → Option (Refusal × ℕ)
at_ordinal i none = none
at_ordinal i (some r) = some (r, i)

-- validate_nodes: the first refusal, i being the ordinal of the first node
unfoldable pub validate_nodes : List String → List ℕ → ℕ → Nodes KeyframeTime → Option (Refusal × ℕ)
validate_nodes names t i Nodes.none = none
validate_nodes names t i (leaf p l rest) = or_else (at_ordinal i (validate_leaf names t l)) (validate_nodes names t (suc i) rest)
validate_nodes names t i (box p b ns rest) =
    or_else (at_ordinal i (validate_container b)) (or_else (validate_nodes names t (suc i) ns) (validate_nodes names t (suc i + records ns) rest))
