-- The row of the grammar's table at a place.
use Prim.Native.Nat.{ℕ, zero, suc, ◌≤◌}
use Prim.Native.String.{String}
use mathlib.Core.List.{List, [], ◌∷◌}
use mathlib.Core.Logic.{◌⊎◌, inl, inr}
use mathlib.Core.Option.{Option, none, some, some-injective}
use mathlib.Core.Path.{◌≡◌, refl, sym, ◌∙◌, subst}
use native.Mathlib.Omega.{arith}
use lib.ListN.{length, get_elem?}
use Rattle.number.specs.Time.{Key}
use Rattle.ast.specs.Tree.{Leaf}
use Rattle.grammar.specs.Rule.{Rule}
use Rattle.grammar.specs.Grammar.{leaves, parse_at}
use Rattle.read_cursor.specs.declared.Cursor.{Cursor}
use Rattle.read_node.specs.Means.{LeafMeans}
use Rattle.read_node.specs.declared.NodeRead.{NodeRead}
use Rattle.read_blocks.specs.Means.{LeafAtMeans}

none≢some : {A B : Type 0} {a : A} → Prim.Path (Option A) none (some a) → B
none≢some e = absurd (let z : ◌≡◌ {A = ℕ} 0 1 = cc in omega arith)

past : {A : Type 0} (t : List A) (i : ℕ) → length t ≤ i → get_elem? t i ≡ none
past [] i h = refl
past (a ∷ t) zero h = absurd (omega (arith, h))
past (a ∷ t) (suc i) h = past t i (omega (arith, h))

ten : (i : ℕ) → 10 ≤ i → (i ≡ 10) ⊎ (11 ≤ i)
ten i h = go i 10 h
  where
    go : (i k : ℕ) → k ≤ i → (i ≡ k) ⊎ (suc k ≤ i)
    go zero zero h = inl refl
    go (suc i) zero h = inr (omega arith)
    go zero (suc k) h = absurd (omega (arith, h))
    go (suc i) (suc k) h = up (go i k (omega (arith, h)))
      where
        up : (i ≡ k) ⊎ (suc k ≤ i) → (suc i ≡ suc k) ⊎ (suc (suc k) ≤ suc i)
        up (inl e) = inl (omega (arith, e))
        up (inr l) = inr (omega (arith, l))

module _ {s b a : List ℕ} {c : Cursor} {out i : ℕ} {r : NodeRead} where
  -- the row at a known place
  pub row_at : (k : ℕ) (row : String × Rule (Leaf Key)) → get_elem? leaves k ≡ some row
      → i ≡ k → LeafMeans s b a c out row.1 r → LeafAtMeans s b a c out i r
  row_at k row g e h = record {
    by = λ other f. subst (λ (x : String × Rule (Leaf Key)). LeafMeans s b a c out x.1 r)
        (some-injective row other (sym g ∙ subst (λ (n : ℕ). get_elem? leaves n ≡ some other) e f)) h;
  }

  -- the last row, behind which there is none
  pub last_row : 10 ≤ i → LeafMeans s b a c out parse_at r → LeafAtMeans s b a c out i r
  unfolding leaves
  last_row l h = go (ten i l)
    where
      go : (i ≡ 10) ⊎ (11 ≤ i) → LeafAtMeans s b a c out i r
      go (inl e) = row_at 10 ("at", parse_at) refl e h
      go (inr m) = record { by = λ other f. none≢some (sym (past leaves i m) ∙ f) }
