-- Laws of rows: what holds of the row at a place, and of fields that are read in a loop.
use Prim.Native.Nat.{ℕ, zero, suc, ◌+◌, ◌<◌}
use Prim.Native.String.{String}
use mathlib.Core.Bool.{true, false}
use mathlib.Core.List.{List, [], ◌∷◌}
use mathlib.Core.Option.{some, some-injective}
use mathlib.Core.Path.{◌≡◌, subst}
use native.Mathlib.Omega.{arith}
use lib.ListN.{get_elem?}
use Rattle.error.specs.declared.Refusal.{Refusal}
use Rattle.grammar.specs.Rule.{Rule, refused, list_step, eat_byte}
use Rattle.grammar.specs.Fields.{Table, Fields, Content, one_pair, pairs}
use Rattle.read_cursor.specs.WordMeans.{at_of}
use Rattle.read_cursor.specs.Means.{Ready, run, Took}
use Rattle.read_cursor.specs.declared.Cursor.{Cursor}
use Rattle.read_fields.specs.Means.{PairMeans, PairAt}
use Rattle.read_fields.specs.declared.NextField.TheVariants as found
use Rattle.read_fields.proofs.ListLaws.{Listed, listed_start, listed_gives, listed_done, pair_refused, pair-more, pair_moves, pair-last}
use Rattle.read_heads.specs.Means.{TookValue, TookRow, RefusedRow, TookRows}
use Rattle.read_values.proofs.NameLaws.{none≢some}

-- ---- the row at a place

-- P holds of each row, if the place i is its own, counted from k
abbrev pub Each : {A : Type 0} → (A → Type 0) → ℕ → ℕ → List A → Type 0
Each P i k [] = Unit {0}
Each P i k (a ∷ t) = (i ≡ k → P a) × Each P i (suc k) t

row_from : {A : Type 0} (P : A → Type 0) (i k j : ℕ) (t : List A) (row : A) → i ≡ k + j → get_elem? t j ≡ some row → Each P i k t → P row
row_from P i k j [] row q e h = none≢some e
row_from P i k zero (a ∷ t) row q e h = subst P (some-injective a row e) (h.0 (omega arith))
row_from P i k (suc j) (a ∷ t) row q e h = row_from P i (suc k) j t row (omega arith) e h.1

pub by_row : {A : Type 0} (P : A → Type 0) (i : ℕ) (t : List A) (row : A) → get_elem? t i ≡ some row → Each P i 0 t → P row
by_row P i t row e h = row_from P i 0 i t row (omega arith) e h

-- ---- the value of a field

module _ (t : Table) (s : List ℕ) (c : Cursor) (i : ℕ) where
  pub took_row : {F : Type 0} (held : F → Fields → Type 0) (m : Cursor) (f g : F)
      → Each (TookValue held s c m f g) i 0 t → TookRow held t s c m f g i
  took_row held m f g h row e = by_row (TookValue held s c m f g) i t row e h

  pub refused_row : (r : Refusal) (q : ℕ)
      → Each (λ (row : String × Rule Content). run s c row.1 ≡ refused r q) i 0 t
      → RefusedRow t s c i r q
  refused_row r q h row e = by_row (λ (row : String × Rule Content). run s c row.1 ≡ refused r q) i t row e h

-- ---- fields in parentheses, read in a loop

-- the fields that began at c stand at m, and f holds them
pub record Kept {F : Type 0} (held : F → Fields → Type 0) (t : Table) (s : List ℕ) (c m : Cursor) (f : F) : Type 0 where
  pub fields : Fields
  pub listed : Listed (list_step (one_pair t)) s c m [] fields
  pub holds : held f fields

module _ {F : Type 0} (held : F → Fields → Type 0) (t : Table) (s : List ℕ) (c : Cursor) where
  pub kept_start : (f : F) → Ready s c → held f [] → Kept held t s c c f
  kept_start f r h = record { fields = []; listed = listed_start (list_step (one_pair t)) s c [] r; holds = h }

  module _ (m : Cursor) (f : F) (k : Kept held t s c m f) where
    pub kept_refused : (r : Refusal) (q : ℕ) → PairMeans s m t (found.Refused r q) → run s c (pairs t) ≡ refused r q
    unfolding pairs
    kept_refused r q n = listed_gives (list_step (one_pair t)) s c m [] k.fields k.listed _ (n k.fields)

    pub kept_done : (e : Cursor) → PairMeans s m t (found.Done e) → TookRows held t s c e f
    unfolding pairs
    kept_done e n = (
      k.fields,
      listed_done
          (list_step (one_pair t))
          s c m []
          k.fields
          k.listed
          e
          (rw n.0 k.listed.ready)
          (rw n.0 (omega arith))
          (rw n.0 (n.1 k.fields)),
      k.holds,
    )

    module _ (i : ℕ) (v : Cursor) (p : PairAt s m t i v) where
      pub value_refused : (r : Refusal) (q : ℕ) → RefusedRow t s v i r q → run s c (pairs t) ≡ refused r q
      unfolding pairs
      value_refused r q h = pair_refused s t c m v [] k.fields k.listed i p r q (h p.row p.is)

      module _ (w u : Cursor) (g : F) (h : TookRow held t s v w f g i) where
        pub value-more : Took 0 s w u (eat_byte 44) true → Kept held t s c u g
        value-more z = let y = h p.row p.is in record {
          fields = _;
          listed = pair-more s t c m v [] k.fields k.listed i p w u y.0 y.1 z;
          holds = y.2 k.fields k.holds;
        }

        pub value_moves : Took 0 s w u (eat_byte 44) true → at_of m < at_of u
        value_moves z = let y = h p.row p.is in pair_moves s t c m v [] k.fields k.listed i p w u y.0 y.1 z

        pub value-last : Took 0 s w u (eat_byte 44) false → TookRows held t s c u g
        unfolding pairs
        value-last z =
            let y = h p.row p.is in
            (_, pair-last s t c m v [] k.fields k.listed i p w u y.0 y.1 z, y.2 k.fields k.holds)
