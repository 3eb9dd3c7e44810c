-- The tests, over what the code holds: each agrees with its definition through the view.
use Prim.Native.Nat.{ℕ}
use mathlib.Core.Bool.{Bool, true, false, not, ◌&&◌, ◌||◌}
use mathlib.Core.List.{List}
use mathlib.Core.Option.{none, some}
use mathlib.Core.Path.{◌≡◌, refl, sym, ◌∙◌, ap}
use native.Mathlib.Omega.{arith}
use lib.Dec.{eqb}
use lib.Ieee.{Float, binary32, of_bits, lt, le}
use borrow.Author.Tests.{eq-eqb, ne_eqb}
use Rattle.number.specs.Number.{f32}
use Rattle.std.specs.Prelude.{Some, None}
use Rattle.ast.specs.Tree as tree
use Rattle.ast.specs.Means.{easing_view, opt_float_view, opt_range_view, opt_easing_view, pattern_view, opt_pattern_view}
use Rattle.ast.specs.declared.EasingSpec as easings
use Rattle.ast.specs.declared.StaggerPatternSpec as patterns
use Rattle.ast.specs.declared.StaggerPatternSpec.TheVariants as pattern
use Rattle.checking.specs.Rules.{nought, one, negative, not_positive, outside_unit, given, unknown_easing, empty_grid}
use Rattle.node_rules.specs.Means.{Tells, unknown, empty}

-- ---- numbers

literals : (of_bits binary32 0 ≡ nought) × (of_bits binary32 1065353216 ≡ one)
unfolding f32
literals = (refl, refl)

module _ (x : Float) where
  pub negative_tells : Tells f32 negative x (lt x (of_bits binary32 0))
  unfolding negative
  negative_tells a e = λ i. lt (sym e i) (literals.0 i)

  pub positive_tells : Tells f32 not_positive x (le x (of_bits binary32 0))
  unfolding not_positive
  positive_tells a e = λ i. le (sym e i) (literals.0 i)

  outside_tells : Tells f32 outside_unit x (not (le (of_bits binary32 0) x && le x (of_bits binary32 1065353216)))
  unfolding outside_unit
  outside_tells a e = λ i. not (le (literals.0 i) (sym e i) && le (sym e i) (literals.1 i))

  pub above_tells : le (of_bits binary32 0) x ≡ true → Tells f32 outside_unit x (not (le x (of_bits binary32 1065353216)))
  above_tells h a e = rw h at (outside_tells a e)

  pub below_tells : le (of_bits binary32 0) x ≡ false → Tells f32 outside_unit x true
  below_tells h a e = rw h at (outside_tells a e)

-- ---- what may be absent

module _ (p : ℕ → Bool) where
  pub float_absent : Tells opt_float_view (given p) None false
  float_absent none e = refl
  float_absent (some a) e = let z : ◌≡◌ {A = ℕ} 0 1 = cc in absurd (omega arith)

  pub float_present : {y : Float} {r : Bool} → Tells f32 p y r → Tells opt_float_view (given p) (Some y) r
  float_present t none e = let z : ◌≡◌ {A = ℕ} 0 1 = cc in absurd (omega arith)
  float_present t (some a) e = t a (cc)

abbrev outside : ℕ × ℕ → Bool
outside p = outside_unit p.0 || outside_unit p.1

pub range_absent : Tells opt_range_view (given outside) None false
range_absent none e = refl
range_absent (some p) e = let z : ◌≡◌ {A = ℕ} 0 1 = cc in absurd (omega arith)

-- the start is outside; it is not, and the end decides
pub range_start : {x y : Float} {q : Bool} → q ≡ true → Tells f32 outside_unit x q
    → Tells opt_range_view (given outside) (Some (x, y)) true
range_start h t none e = let z : ◌≡◌ {A = ℕ} 0 1 = cc in absurd (omega arith)
range_start {x} {y} h t (some p) e =
    let i : ◌≡◌ {A = Float × Float} (f32 p.0, f32 p.1) (x, y) = cc in
    let z = sym (t p.0 (ap (λ (q : Float × Float). q.0) i)) ∙ h in
    rw z

pub range_end : {x y : Float} {q r : Bool} → q ≡ false → Tells f32 outside_unit x q
    → Tells f32 outside_unit y r
    → Tells opt_range_view (given outside) (Some (x, y)) r
range_end h t u none e = let z : ◌≡◌ {A = ℕ} 0 1 = cc in absurd (omega arith)
range_end {x} {y} h t u (some p) e =
    let i : ◌≡◌ {A = Float × Float} (f32 p.0, f32 p.1) (x, y) = cc in
    let z = sym (t p.0 (ap (λ (q : Float × Float). q.0) i)) ∙ h in
    rw z (u p.1 (ap (λ (q : Float × Float). q.1) i))

-- ---- easings

unknown_is : (t : List ℕ) (e : tree.EasingSpec) → unknown t (easing_view e) ≡ unknown_easing t e
unfolding unknown_easing
unknown_is t (tree.named v s) = refl
unknown_is t (tree.cubic_bezier a b c d) = refl
unknown_is t (tree.steps n) = refl
unknown_is t (tree.wiggle n) = refl
unknown_is t (tree.rough s n) = refl
unknown_is t (tree.slow_mo r p) = refl

pub easing_tells : (t : List ℕ) (x : easings.EasingSpec) → Tells easing_view (unknown_easing t) x (unknown t x)
easing_tells t x e h = sym (ap (unknown t) h) ∙ unknown_is t e

module _ (p : tree.EasingSpec → Bool) where
  pub easing_absent : Tells opt_easing_view (given p) None false
  easing_absent none e = refl
  easing_absent (some a) e = let z : ◌≡◌ {A = ℕ} 0 1 = cc in absurd (omega arith)

  pub easing_present : {y : easings.EasingSpec} {r : Bool} → Tells easing_view p y r → Tells opt_easing_view (given p) (Some y) r
  easing_present t none e = let z : ◌≡◌ {A = ℕ} 0 1 = cc in absurd (omega arith)
  easing_present t (some a) e = t a (cc)

-- ---- patterns of a stagger

empty_is : (p : tree.StaggerPatternSpec) → empty (pattern_view p) ≡ empty_grid p
unfolding empty_grid
empty_is (tree.grid cols rows origin) = refl
empty_is (tree.random seed min max) = refl
empty_is tree.center_out = refl
empty_is tree.edges_in = refl

pub pattern_tells : (x : patterns.StaggerPatternSpec) → Tells pattern_view empty_grid x (empty x)
pattern_tells x p h = sym (ap empty h) ∙ empty_is p

module _ (cols rows origin : ℕ) where
  pub grid_cols : cols ≡ 0 → Tells pattern_view empty_grid (pattern.Grid cols rows origin) true
  grid_cols e p h = sym (rw (eq-eqb cols 0 e)) ∙ pattern_tells (pattern.Grid cols rows origin) p h

  pub grid_rows : (cols ≡ 0 → ⊥) → Tells pattern_view empty_grid (pattern.Grid cols rows origin) (eqb rows 0)
  grid_rows n p h = sym (rw (ne_eqb cols 0 n)) ∙ pattern_tells (pattern.Grid cols rows origin) p h

module _ (q : tree.StaggerPatternSpec → Bool) where
  pub pattern_absent : Tells opt_pattern_view (given q) None false
  pattern_absent none e = refl
  pattern_absent (some a) e = let z : ◌≡◌ {A = ℕ} 0 1 = cc in absurd (omega arith)

  pub pattern_present : {y : patterns.StaggerPatternSpec} {r : Bool} → Tells pattern_view q y r
      → Tells opt_pattern_view (given q) (Some y) r
  pattern_present t none e = let z : ◌≡◌ {A = ℕ} 0 1 = cc in absurd (omega arith)
  pattern_present t (some a) e = t a (cc)
