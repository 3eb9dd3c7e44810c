-- Rules in order: one more rule is one more test of the list. And a test that compares counts.
use Prim.Native.Nat.{ℕ}
use mathlib.Core.Bool.{Bool, true, false}
use mathlib.Core.List.{List, [], ◌∷◌, ◌++◌}
use mathlib.Core.Option.{Option, none, some}
use mathlib.Core.Path.{◌≡◌, refl, sym, ◌∙◌}
use Rattle.text.specs.Words.{or_else}
use Rattle.error.specs.declared.Refusal.{Refusal}
use Rattle.ast.specs.Tree.{scalar, array}
use Rattle.checking.specs.Rules.{first, mismatched}

first-append : (cs ds : List (Bool × Refusal)) → first (cs ++ ds) ≡ or_else (first cs) (first ds)
unfolding first
first-append [] ds = refl
first-append ((true, r) ∷ cs) ds = refl
first-append ((false, r) ∷ cs) ds = first-append cs ds

-- the first rule
pub one : (refusal : Refusal) {r : Option Refusal} {broken b : Bool}
    → broken ≡ b → r ≡ first ((broken, refusal) ∷ []) → r ≡ first ((b, refusal) ∷ [])
one refusal q h = h ∙ (λ i. first ((q i, refusal) ∷ []))

-- one more
pub more : (cs : List (Bool × Refusal)) (refusal : Refusal) {o r : Option Refusal} {broken b : Bool}
    → o ≡ first cs → broken ≡ b → r ≡ or_else o (first ((broken, refusal) ∷ [])) → r ≡ first (cs ++ (b, refusal) ∷ [])
more cs refusal {b = b} e q h =
    h ∙ (λ i. or_else (e i) (first ((q i, refusal) ∷ []))) ∙ sym (first-append cs ((b, refusal) ∷ []))

-- ---- one rule

module _ (b : Bool) (r : Refusal) where
  pub broken : b ≡ true → some r ≡ first ((b, r) ∷ [])
  unfolding first
  broken e = rw e

  pub held : b ≡ false → none ≡ first ((b, r) ∷ [])
  unfolding first
  held e = rw e

-- ---- 01: "comparing .. counts", not kinds

-- a number and an array of one are as many, though of two kinds; arrays of one and of two are not, though of one kind
pub counts_compared : (x y z : ℕ)
    → (mismatched (scalar x) (array (y ∷ [])) ≡ false) × (mismatched (array (y ∷ [])) (array (y ∷ z ∷ [])) ≡ true)
counts_compared x y z = (refl, refl)
