-- The rows of a table: which one stands at a place, and what taking its value says.
use Prim.Native.Nat.{ℕ, zero, suc, ◌<◌}
use Prim.Native.String.{String}
use mathlib.Core.List.{List, [], ◌∷◌}
use mathlib.Core.Option.{some, some-injective}
use mathlib.Core.Path.{◌≡◌, refl, sym, ap, ◌∙◌, subst}
use native.Mathlib.Omega.{arith}
use lib.ListN.{length, get_elem?}
use Rattle.text.specs.Bytes.{bytes}
use Rattle.error.specs.declared.Refusal.{Refusal}
use Rattle.grammar.specs.Rule.{Rule, refused}
use Rattle.grammar.specs.Fields.{Table, Fields, Content, a_number}
use Rattle.grammar.specs.Values.{parse_float, parse_uint, number, count}
use Rattle.read_cursor.specs.Means.{run, Took}
use Rattle.read_cursor.specs.declared.Cursor.{Cursor}
use Rattle.read_values.specs.Means.{Holds}

-- the row at a place that is known, and the last of two
pub row_at : (t : Table) (i j : ℕ) (row r : String × Rule Content) → i ≡ j → get_elem? t j ≡ some r → get_elem? t i ≡ some row → r ≡ row
row_at t i j row r e f g = some-injective r row (sym f ∙ ap (get_elem? t) (sym e) ∙ g)

pub second_row : (a b row : String × Rule Content) (i : ℕ) → (i ≡ 0 → ⊥) → get_elem? (a ∷ b ∷ []) i ≡ some row → b ≡ row
second_row a b row zero n e = absurd (n refl)
second_row a b row (suc zero) n e = some-injective b row e
second_row a b row (suc (suc i)) n e = absurd (let z : ◌≡◌ {A = ℕ} 0 1 = cc in omega arith)

-- what a step takes of a row, for the row that stands there
pub by_row : {F : Type 0} (held : F → Fields → Type 0) (s : List ℕ) (c m : Cursor) (f g : F) (r row : String × Rule Content) (x : Content)
    → r ≡ row
    → Took 1 s c m r.1 x → Holds held f g (bytes r.0) x → (y : Content) × Took 1 s c m row.1 y × Holds held f g (bytes row.0) y
by_row held s c m f g r row x e t h =
    subst (λ (w : String × Rule Content). (y : Content) × Took 1 s c m w.1 y × Holds held f g (bytes w.0) y) e (x, t, h)

pub refused_row : (s : List ℕ) (c : Cursor) (r row : String × Rule Content) (a : Refusal) (q : ℕ)
    → r ≡ row → run s c r.1 ≡ refused a q → run s c row.1 ≡ refused a q
refused_row s c r row a q e h = subst (λ (w : String × Rule Content). run s c w.1 ≡ refused a q) e h

-- ---- an f32, a u32

module _ (s : List ℕ) (c : Cursor) where
  pub took_number : (m : Cursor) (n : ℕ) → Took 1 s c m parse_float n → Took 1 s c m number (a_number n)
  unfolding number
  took_number m n t = record { is = rw t.is; low = t.low; ready = t.ready }

  pub no_number : (r : Refusal) (q : ℕ) → run s c parse_float ≡ refused r q → run s c number ≡ refused r q
  unfolding number
  no_number r q h = rw h

  pub took_count : (m : Cursor) (n : ℕ) → Took 1 s c m parse_uint n → Took 1 s c m count (a_number n)
  unfolding count
  took_count m n t = record { is = rw t.is; low = t.low; ready = t.ready }

  pub no_count : (r : Refusal) (q : ℕ) → run s c parse_uint ≡ refused r q → run s c count ≡ refused r q
  unfolding count
  no_count r q h = rw h

-- ---- places of a table

-- a place that has a row is one of the table's
pub elem_lt : {A : Type 0} (t : List A) (i : ℕ) (x : A) → get_elem? t i ≡ some x → i < length t
elem_lt [] i x e = absurd (let z : ◌≡◌ {A = ℕ} 0 1 = cc in omega arith)
elem_lt (y ∷ t) zero x e = omega arith
elem_lt (y ∷ t) (suc i) x e = let h = elem_lt t i x e in omega arith

pub elem_at : {A : Type 0} (t : List A) (i j : ℕ) (x y : A) → i ≡ j → get_elem? t j ≡ some y → get_elem? t i ≡ some x → y ≡ x
elem_at t i j x y e f g = some-injective y x (sym f ∙ ap (get_elem? t) (sym e) ∙ g)
