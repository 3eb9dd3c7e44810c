-- What the answers of rules mean, and the tests of rules over what the code holds. Contracts cite these.
use Rattle.std.specs.Prelude.{ℕ, ◌≡◌, Bool, false, not, ◌&&◌, ◌||◌, List, [], ◌∷◌, eqb, Some, None, Option as Optional, Result, Ok, Err, Float}
use Rattle.std.proofs.Math.Option.{Option, none, some}
use Rattle.std.specs.Float.Ieee.{le}
use Rattle.text.specs.Bytes.{part}
use Rattle.easing.specs.Names.{is_easing}
use Rattle.ast.specs.Tree.{StaggerPatternSpec, stagger}
use Rattle.ast.specs.Means.{count_of, stagger_view}
use Rattle.ast.specs.declared.ValueExpr as values
use Rattle.ast.specs.declared.EasingSpec as easings
use Rattle.ast.specs.declared.EasingSpec.TheVariants.{Named, CubicBezier, Steps, Wiggle, Rough, SlowMo}
use Rattle.ast.specs.declared.StaggerPatternSpec as patterns
use Rattle.ast.specs.declared.StaggerPatternSpec.TheVariants.{Grid, Random, CenterOut, EdgesIn}
use Rattle.ast.specs.declared.StaggerSpec as staggers
use Rattle.error.specs.declared.Refusal.{Refusal}
use Rattle.error.specs.declared.Refusal.TheVariants.{UnknownEasing}
use Rattle.checking.specs.Rules.{nought, one, first, validate_container}

-- the refusal of a rule's answer
abbrev pub fault_of : Result Unit Refusal → Option Refusal
fault_of (Ok u) = none
fault_of (Err r) = some r

-- r is what f gives, of whatever `view` shows as v
abbrev pub Tells : {A X B : Type 0} → (A → X) → (A → B) → X → B → Type 0
Tells {A} view f v r = (a : A) → view a ≡ v → r ≡ f a

-- whichever stagger is shown as v, r is the fault of its own fields
abbrev pub StaggerTells : staggers.StaggerSpec → Result Unit Refusal → Type 0
StaggerTells v r =
    (p : Option StaggerPatternSpec) (d : Option ℕ) (c : ℕ) → stagger_view p d c ≡ v → fault_of r ≡ validate_container (stagger p d)

-- ---- tests

-- `is_some_and`
abbrev pub some_and : {A : Type 0} → (A → Bool) → Optional A → Bool
some_and test None = false
some_and test (Some x) = test x

abbrev pub outside_unit : Float → Bool
outside_unit x = not (le nought x && le x one)

abbrev pub range_outside_unit : Float × Float → Bool
range_outside_unit range = outside_unit range.0 || outside_unit range.1

abbrev pub counts_differ : values.ValueExpr → values.ValueExpr → Bool
counts_differ from to = not (eqb (count_of from) (count_of to))

abbrev pub unknown : List ℕ → easings.EasingSpec → Bool
unknown t (Named variant name) = not (is_easing variant (part t name.start name.size))
unknown t (CubicBezier a b c d) = false
unknown t (Steps n) = false
unknown t (Wiggle n) = false
unknown t (Rough s n) = false
unknown t (SlowMo r p) = false

abbrev pub easing_fault : List ℕ → Optional easings.EasingSpec → Option Refusal
easing_fault t easing = first ((some_and (unknown t) easing, UnknownEasing) ∷ [])

abbrev pub empty : patterns.StaggerPatternSpec → Bool
empty (Grid cols rows origin) = eqb cols 0 || eqb rows 0
empty (Random seed min max) = false
empty CenterOut = false
empty EdgesIn = false
