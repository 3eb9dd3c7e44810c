-- The rules of each kind over what the code holds: through the view they are the definitions'.
use Rattle.std.specs.Prelude.{Option as Optional, Result, Err}
use Prim.Native.Nat.{ℕ}
use Prim.Native.String.{String}
use mathlib.Core.Bool.{Bool, true, false, not, ◌||◌, cond}
use mathlib.Core.List.{List, [], ◌∷◌}
use mathlib.Core.Option.{Option, none, some}
use mathlib.Core.Path.{◌≡◌, refl, sym, ◌∙◌, ap}
use native.Mathlib.Omega.{arith}
use lib.Dec.{eqb}
use lib.Ieee.{lt, le}
use Rattle.text.specs.Bytes.{part}
use Rattle.presets.specs.Colors.{is_color}
use Rattle.presets.specs.Presets.{is_preset}
use Rattle.ast.specs.Tree as tree
use Rattle.ast.specs.Means.{value_view, count_of, opt_easing_view, opt_float_view, opt_range_view, opt_pattern_view}
use Rattle.ast.specs.Means.{tween_view, spring_view, path_view, morph_view, draw_view, color_view, waveform_view, preset_view, stagger_view}
use Rattle.ast.specs.declared.TweenSpec as tweens
use Rattle.ast.specs.declared.SpringSpec as springs
use Rattle.ast.specs.declared.PathSpec as paths
use Rattle.ast.specs.declared.MorphSpec as morphs
use Rattle.ast.specs.declared.DrawSpec as draws
use Rattle.ast.specs.declared.ColorSpec as colors
use Rattle.ast.specs.declared.WaveformSpec as waveforms
use Rattle.ast.specs.declared.PresetCall as presets
use Rattle.ast.specs.declared.StaggerSpec as staggers
use Rattle.ast.specs.declared.EasingSpec as easings
use Rattle.ast.specs.declared.EasingSpec.TheVariants as easing
use Rattle.ast.specs.declared.StaggerPatternSpec as patterns
use Rattle.ast.specs.declared.StaggerPatternSpec.TheVariants as pattern
use Rattle.error.specs.declared.Refusal.{Refusal}
use Rattle.error.specs.declared.Refusal.TheVariants.{OutOfRange, ValueTypeMismatch, UnknownEasing, UnknownPreset, InvalidColor, NoiseHeld}
use Rattle.checking.specs.Rules as rules
use Rattle.checking.specs.Rules.{nought, one, negative, not_positive, unknown_easing, first, given, mismatched, empty_grid}
use Rattle.node_rules.specs.Means.{fault_of, Tells, some_and, range_outside_unit, counts_differ, unknown, easing_fault, empty}

-- ---- tests

mismatched_is : (a b : tree.ValueExpr) → mismatched a b ≡ counts_differ (value_view a) (value_view b)
mismatched_is a b = λ i. not (eqb (count_is a i) (count_is b i))
  where
    count_is : (v : tree.ValueExpr) → tree.component_count v ≡ count_of (value_view v)
    count_is (tree.scalar x) = refl
    count_is (tree.array xs) = refl

pub mismatch_tells : {v w : _} {r : Bool} → r ≡ counts_differ v w → (a b : tree.ValueExpr) → value_view a ≡ v → value_view b ≡ w
    → r ≡ mismatched a b
mismatch_tells h a b e q = h ∙ (λ i. counts_differ (sym e i) (sym q i)) ∙ sym (mismatched_is a b)

easing_is : (t : List ℕ) (o : Option tree.EasingSpec) → given (unknown_easing t) o ≡ some_and (unknown t) (opt_easing_view o)
unfolding unknown_easing
easing_is t none = refl
easing_is t (some (tree.named v s)) = refl
easing_is t (some (tree.cubic_bezier a b c d)) = refl
easing_is t (some (tree.steps n)) = refl
easing_is t (some (tree.wiggle n)) = refl
easing_is t (some (tree.rough s n)) = refl
easing_is t (some (tree.slow_mo r p)) = refl

-- no name, none unknown
pub no_name : (t : List ℕ) (e : easings.EasingSpec) → ((v : Bool) (s : _) → e ≡ easing.Named v s → ⊥) → false ≡ unknown t e
no_name t (easing.Named v s) n = absurd (n v s refl)
no_name t (easing.CubicBezier a b c d) n = refl
no_name t (easing.Steps k) n = refl
no_name t (easing.Wiggle k) n = refl
no_name t (easing.Rough s k) n = refl
no_name t (easing.SlowMo r p) n = refl

pub no_grid : (p : patterns.StaggerPatternSpec) → ((a b c : ℕ) → p ≡ pattern.Grid a b c → ⊥) → false ≡ empty p
no_grid (pattern.Grid a b c) n = absurd (n a b c refl)
no_grid (pattern.Random s a b) n = refl
no_grid pattern.CenterOut n = refl
no_grid pattern.EdgesIn n = refl

negative_is : (o : Option ℕ) → given negative o ≡ some_and (λ x. lt x nought) (opt_float_view o)
unfolding negative
negative_is none = refl
negative_is (some x) = refl

not_positive_is : (o : Option ℕ) → given not_positive o ≡ some_and (λ x. le x nought) (opt_float_view o)
unfolding not_positive
not_positive_is none = refl
not_positive_is (some x) = refl

range_is : (o : Option (ℕ × ℕ)) → given (λ p. rules.outside_unit p.0 || rules.outside_unit p.1) o ≡ some_and range_outside_unit (opt_range_view o)
unfolding rules.outside_unit
range_is none = refl
range_is (some p) = refl

pattern_is : (o : Option tree.StaggerPatternSpec) → given empty_grid o ≡ some_and empty (opt_pattern_view o)
unfolding empty_grid
pattern_is none = refl
pattern_is (some (tree.grid cols rows origin)) = refl
pattern_is (some (tree.random seed min max)) = refl
pattern_is (some tree.center_out) = refl
pattern_is (some tree.edges_in) = refl

-- a refusal of an easing stands, whatever rules come after it
pub refused : (b : Bool) (x : Option Refusal) (r : Result Unit Refusal) {q : Refusal} → r ≡ Err q
    → fault_of r ≡ first ((b, UnknownEasing) ∷ []) → fault_of r ≡ cond b (some UnknownEasing) x
unfolding first
refused true x r e h = h
refused false x r e h = let z : ◌≡◌ {A = ℕ} 0 1 = cc in absurd (omega arith)

-- ---- kinds

module _ (t : List ℕ) where
  pub opt_easing : (v : Optional easings.EasingSpec) {o : Option Refusal} → o ≡ easing_fault t v
      → Tells opt_easing_view (λ o. first ((given (unknown_easing t) o, UnknownEasing) ∷ [])) v o
  opt_easing v h x e = h ∙ ap (easing_fault t) (sym e) ∙ sym (rw (easing_is t x))

  abbrev pub tween_fault : tweens.TweenSpec → Option Refusal
  tween_fault v = first (
      (lt v.duration nought, OutOfRange) ∷ (counts_differ v.from v.to, ValueTypeMismatch)
      ∷ (some_and (unknown t) v.easing, UnknownEasing) ∷ (some_and (λ x. lt x nought) v.time_scale, OutOfRange)
      ∷ (some_and (λ x. lt x nought) v.delay, OutOfRange) ∷ [])

  pub tween : (v : tweens.TweenSpec) {o : Option Refusal} → o ≡ tween_fault v → Tells tween_view (rules.validate_tween t) v o
  unfolding rules.validate_tween negative first
  tween v h x e =
      h ∙ ap tween_fault (sym e)
      ∙ sym (rw (mismatched_is x.from x.to, easing_is t x.easing, negative_is x.time_scale, negative_is x.delay))

  abbrev pub path_fault : paths.PathSpec → Option Refusal
  path_fault v = first (
      (lt v.duration nought, OutOfRange) ∷ (some_and (unknown t) v.easing, UnknownEasing)
      ∷ (some_and range_outside_unit v.offset, OutOfRange) ∷ [])

  pub path : (v : paths.PathSpec) {o : Option Refusal} → o ≡ path_fault v → Tells path_view (rules.validate_path t) v o
  unfolding rules.validate_path negative first
  path v h x e = h ∙ ap path_fault (sym e) ∙ sym (rw (easing_is t x.easing, range_is x.offset))

  abbrev pub morph_fault : morphs.MorphSpec → Option Refusal
  morph_fault v = first (
      (lt v.duration nought, OutOfRange) ∷ (eqb v.samples 0, OutOfRange) ∷ (some_and (unknown t) v.easing, UnknownEasing) ∷ [])

  pub morph : (v : morphs.MorphSpec) {o : Option Refusal} → o ≡ morph_fault v → Tells morph_view (rules.validate_morph t) v o
  unfolding rules.validate_morph negative first
  morph v h x e = h ∙ ap morph_fault (sym e) ∙ sym (rw (easing_is t x.easing))

  abbrev pub draw_fault : draws.DrawSpec → Option Refusal
  draw_fault v = first ((lt v.duration nought, OutOfRange) ∷ (some_and (unknown t) v.easing, UnknownEasing) ∷ [])

  pub draw : (v : draws.DrawSpec) {o : Option Refusal} → o ≡ draw_fault v → Tells draw_view (rules.validate_draw t) v o
  unfolding rules.validate_draw negative first
  draw v h x e = h ∙ ap draw_fault (sym e) ∙ sym (rw (easing_is t x.easing))

  abbrev pub color_fault : List String → colors.ColorSpec → Option Refusal
  color_fault names v = first (
      (lt v.duration nought, OutOfRange) ∷ (not (is_color names (part t v.from.start v.from.size)), InvalidColor)
      ∷ (not (is_color names (part t v.to.start v.to.size)), InvalidColor)
      ∷ (some_and (unknown t) v.easing, UnknownEasing) ∷ [])

  pub color : (names : List String) (v : colors.ColorSpec) {o : Option Refusal} → o ≡ color_fault names v
      → Tells color_view (rules.validate_color names t) v o
  unfolding rules.validate_color negative first
  color names v h x e = h ∙ ap (color_fault names) (sym e) ∙ sym (rw (easing_is t x.easing))

  abbrev pub preset_fault : presets.PresetCall → Option Refusal
  preset_fault v = first (
      (not (is_preset (part t v.name.start v.name.size)), UnknownPreset) ∷ (some_and (unknown t) v.easing, UnknownEasing)
      ∷ (some_and (λ x. lt x nought) v.duration, OutOfRange) ∷ [])

  pub preset : (v : presets.PresetCall) {o : Option Refusal} → o ≡ preset_fault v → Tells preset_view (rules.validate_preset_call t) v o
  unfolding rules.validate_preset_call first
  preset v h x e = h ∙ ap preset_fault (sym e) ∙ sym (rw (easing_is t x.easing, negative_is x.duration))

abbrev pub spring_fault : springs.SpringSpec → Option Refusal
spring_fault v = first (
    (counts_differ v.from v.to, ValueTypeMismatch) ∷ (some_and (λ x. lt x nought) v.stiffness, OutOfRange)
    ∷ (some_and (λ x. le x nought) v.mass, OutOfRange) ∷ (some_and (λ x. le x nought) v.epsilon, OutOfRange) ∷ [])

pub spring : (v : springs.SpringSpec) {o : Option Refusal} → o ≡ spring_fault v → Tells spring_view rules.validate_spring v o
unfolding rules.validate_spring first
spring v h x e =
    h ∙ ap spring_fault (sym e)
    ∙ sym (rw (mismatched_is x.from x.to, negative_is x.stiffness, not_positive_is x.mass, not_positive_is x.epsilon))

abbrev pub waveform_fault : waveforms.WaveformSpec → Option Refusal
waveform_fault v = first ((eqb v.kind 4, NoiseHeld) ∷ (some_and (λ x. lt x nought) v.frequency, OutOfRange) ∷ [])

pub waveform : (v : waveforms.WaveformSpec) {o : Option Refusal} → o ≡ waveform_fault v → Tells waveform_view rules.validate_waveform v o
unfolding rules.validate_waveform first
waveform v h x e = h ∙ ap waveform_fault (sym e) ∙ sym (rw (negative_is x.frequency))

abbrev pub stagger_fault : staggers.StaggerSpec → Option Refusal
stagger_fault v = first ((some_and empty v.pattern, OutOfRange) ∷ [])

pub stagger : (v : staggers.StaggerSpec) {o : Option Refusal} → o ≡ stagger_fault v
    → (p : Option tree.StaggerPatternSpec) (d : Option ℕ) (c : ℕ) → stagger_view p d c ≡ v
    → o ≡ rules.validate_container (tree.stagger p d)
unfolding rules.validate_container first
stagger v h p d c e = h ∙ ap stagger_fault (sym e) ∙ sym (rw (pattern_is p))
