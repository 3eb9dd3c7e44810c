-- A list that is read in a loop: what the loop has so far, and what it gives.
use Prim.Native.Nat.{ℕ, suc, ◌≤◌, ◌<◌}
use mathlib.Core.Bool.{true, false}
use mathlib.Core.List.{List, ◌∷◌}
use mathlib.Core.Path.{◌≡◌}
use native.Mathlib.Omega.{arith}
use lib.ListN.{length}
use Rattle.text.specs.Bytes.{bytes}
use Rattle.error.specs.declared.Refusal.{Refusal}
use Rattle.grammar.specs.Rule.{Out, got, refused, Rule, Next, repeat, list_step, eat_byte}
use Rattle.grammar.specs.Fields.{Table, Fields, Content, field_value, fields_step, one_pair}
use Rattle.read_cursor.specs.WordMeans.{at_of}
use Rattle.read_cursor.specs.Means.{Ready, notes, tokens, run, Took}
use Rattle.read_cursor.specs.declared.Cursor.{Cursor}
use Rattle.read_fields.specs.Means.{Gives, FieldAt, PairAt}

-- the list that began at c with b stands at m with a: what it gives from there on it gives from c on
pub record Listed {A : Type 0} (step : A → Rule (Next A)) (s : List ℕ) (c m : Cursor) (b a : A) : Type 0 where
  pub low : at_of c ≤ at_of m
  pub ready : Ready s m
  pub goes : (out : Out A) → Gives step s m a out → Gives step s c b out

pub listed_start : {A : Type 0} (step : A → Rule (Next A)) (s : List ℕ) (c : Cursor) (b : A) → Ready s c → Listed step s c c b b
listed_start step s c b r = record { low = omega arith; ready = r; goes = λ out h. h }

-- the repetition's own bound is enough
whole : {A : Type 0} (step : A → Rule (Next A)) (s : List ℕ) (c : Cursor) (b : A) (out : Out A)
    → Gives step s c b out → run s c (repeat step b) ≡ out
whole step s c b out g = g (suc (length s)) (omega arith)

module _ {A : Type 0} (step : A → Rule (Next A)) (s : List ℕ) (c m : Cursor) (b a : A) (l : Listed step s c m b a) where
  pub listed_gives : (out : Out A) → Gives step s m a out → run s c (repeat step b) ≡ out
  listed_gives out g = whole step s c b out (l.goes out g)

  pub listed_done : (e : Cursor) → Ready s e → at_of m ≤ at_of e
      → Gives step s m a (got a (notes s e) (tokens s e))
      → Took 0 s c e (repeat step b) a
  listed_done e r h g = record { is = listed_gives _ g; low = omega (arith, l.low); ready = r }

-- ---- fields in parentheses

-- a value, behind which a `,` stands or not
module _ (s : List ℕ) (t : Table) (c m v : Cursor) (b a : Fields) (l : Listed (list_step (one_pair t)) s c m b a) (i : ℕ)
    (f : PairAt s m t i v) where
  pub pair_refused : (x : Refusal) (q : ℕ) → run s v f.row.1 ≡ refused x q → run s c (repeat (list_step (one_pair t)) b) ≡ refused x q
  unfolding field_value
  pair_refused x q h = listed_gives (list_step (one_pair t)) s c m b a l _ (f.goes a _ (λ k n. rw h))

  module _ (w u : Cursor) (x : Content) (y : Took 1 s v w f.row.1 x) where
    pub pair-more : Took 0 s w u (eat_byte 44) true → Listed (list_step (one_pair t)) s c u b ((bytes f.row.0, x) ∷ a)
    unfolding field_value
    pair-more z = record {
      low = omega (arith, l.low, f.low, y.low, z.low);
      ready = z.ready;
      goes = λ out h. l.goes out (f.goes a out (λ k n. rw (y.is, z.is) (h k (omega (arith, y.low, z.low)))));
    }

    pub pair_moves : Took 0 s w u (eat_byte 44) true → at_of m < at_of u
    pair_moves z = omega (arith, f.low, y.low, z.low)

    pub pair-last : Took 0 s w u (eat_byte 44) false → Took 0 s c u (repeat (list_step (one_pair t)) b) ((bytes f.row.0, x) ∷ a)
    unfolding field_value
    pair-last z = record {
      is = listed_gives (list_step (one_pair t)) s c m b a l _ (f.goes a _ (λ k n. rw (y.is, z.is)));
      low = omega (arith, l.low, f.low, y.low, z.low);
      ready = z.ready;
    }

-- ---- a field list

module _ (s : List ℕ) (t : Table) (c m v : Cursor) (b a : Fields) (l : Listed (fields_step t) s c m b a) (i : ℕ)
    (f : FieldAt s m t i v) where
  pub field_refused : (x : Refusal) (q : ℕ) → run s v f.row.1 ≡ refused x q → run s c (repeat (fields_step t) b) ≡ refused x q
  unfolding field_value
  field_refused x q h = listed_gives (fields_step t) s c m b a l _ (f.goes a _ (λ k n. rw h))

  module _ (w : Cursor) (x : Content) (y : Took 1 s v w f.row.1 x) where
    pub field-more : Listed (fields_step t) s c w b ((bytes f.row.0, x) ∷ a)
    unfolding field_value
    field-more = record {
      low = omega (arith, l.low, f.low, y.low);
      ready = y.ready;
      goes = λ out h. l.goes out (f.goes a out (λ k n. rw y.is (h k (omega (arith, y.low)))));
    }

    pub field_moves : at_of m < at_of w
    field_moves = omega (arith, f.low, y.low)
