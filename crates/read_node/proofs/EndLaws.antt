-- The end of a node: its fields are taken, and its record is written.
use Rattle.std.specs.Prelude.{Some, None, Option as Optional}
use Prim.Native.Nat.{ℕ, ◌+◌, ◌≤◌}
use mathlib.Core.List.{List, []}
use mathlib.Core.Path.{◌≡◌, sym}
use native.Mathlib.Omega.{arith}
use lib.ListN.{length}
use lib.Ieee.{Float}
use Rattle.number.specs.Number.{bits}
use Rattle.number.specs.Time.{Key}
use Rattle.ast.specs.Tree.{Leaf}
use Rattle.sheet_encode.specs.Means.{opt_float_of}
use Rattle.error.specs.declared.Refusal.{Refusal}
use Rattle.error.specs.declared.Refusal.TheVariants.{MissingDuration}
use Rattle.grammar.specs.Rule.{Rule, refused, give, ◌>>=◌}
use Rattle.grammar.specs.Fields.{Table, Fields, last_number, parse_field_list}
use Rattle.read_cursor.specs.WordMeans.{at_of}
use Rattle.read_cursor.specs.Means.{run, Took}
use Rattle.read_cursor.specs.declared.Cursor.{Cursor}
use Rattle.read_node.specs.declared.NodeRead.{NodeRead}
use Rattle.read_node.specs.declared.NodeRead.TheVariants as node
use Rattle.read_node.specs.CellMeans.{Cell, ListTook}
use Rattle.read_node.specs.Means.{LeafSays, LeafMeans, Put, EndSays, EndMeans, timed_end}

-- ---- fields with a duration, which must be there

module _ {s b a : List ℕ} {c : Cursor} {out : ℕ} (t : Table) (k : Fields → ℕ → Leaf Key) where
  pub end_refused : {r : Refusal} {q : ℕ} → run s c (parse_field_list t []) ≡ refused r q
      → EndMeans s b a c out (timed_end t k) (node.Refused r q)
  end_refused h = record { by = rw h }

  module _ {e : Cursor} {xs : List Cell} (h : ListTook s c e (parse_field_list t []) xs) {o : Optional Float}
      (d : opt_float_of o ≡ last_number "duration" h.fields) where
    pub end_untimed : o ≡ None → EndMeans s b a c out (timed_end t k) (node.Refused MissingDuration (at_of e))
    end_untimed n = record { by = rw (h.took.is, sym d, n, h.took.ready.head.place) }

    pub end_went : {x : Float} → o ≡ Some x → (v : Leaf Key) → k h.fields (bits x) ≡ v
        → {q : ℕ} → Put b out v a q → EndMeans s b a c out (timed_end t k) (node.Is q e)
    end_went n v z w = record {
      by = record {
        value = v;
        took = record { is = rw (h.took.is, sym d, n, z); low = h.took.low; ready = h.took.ready };
        writes = w.writes (length s);
        paid = let m = w.most in omega (arith, m);
      };
    }

-- ---- the whole node: what stood before its end took a byte or more

module _ {s : List ℕ} {c m : Cursor} (p f : Rule (Leaf Key))
    (e : (x : Leaf Key) (u : Cursor) → Took 0 s m u f x → Took 1 s c u p x)
    (d : (r : Refusal) (q : ℕ) → run s m f ≡ refused r q → run s c p ≡ refused r q)
    (l : at_of c + 1 ≤ at_of m) where
  whole_says : (b a : List ℕ) (out : ℕ) (y : NodeRead) → EndSays s b a m out f y → LeafSays s b a c out p y
  whole_says b a out (node.Is q u) w = record {
    value = w.value;
    took = e w.value u w.took;
    writes = w.writes;
    paid = let z = w.took.low in omega (arith, w.paid, l);
  }
  whole_says b a out (node.Refused r q) w = d r q w

  pub whole_node : {b a : List ℕ} {out : ℕ} {y : NodeRead} → EndMeans s b a m out f y → LeafMeans s b a c out p y
  whole_node {b} {a} {out} {y} w = record { by = whole_says b a out y w.by }

-- the same of an end whose own end is another
module _ {s : List ℕ} {c m : Cursor} (p f : Rule (Leaf Key))
    (e : (x : Leaf Key) (u : Cursor) → Took 0 s m u f x → Took 0 s c u p x)
    (d : (r : Refusal) (q : ℕ) → run s m f ≡ refused r q → run s c p ≡ refused r q)
    (l : at_of c ≤ at_of m) where
  end_says : (b a : List ℕ) (out : ℕ) (y : NodeRead) → EndSays s b a m out f y → EndSays s b a c out p y
  end_says b a out (node.Is q u) w = record {
    value = w.value;
    took = e w.value u w.took;
    writes = w.writes;
    paid = let z = w.took.low in omega (arith, w.paid, l);
  }
  end_says b a out (node.Refused r q) w = d r q w

  pub whole_end : {b a : List ℕ} {out : ℕ} {y : NodeRead} → EndMeans s b a m out f y → EndMeans s b a c out p y
  whole_end {b} {a} {out} {y} w = record { by = end_says b a out y w.by }

-- ---- fields of which none must be there

module _ {s b a : List ℕ} {c : Cursor} {out : ℕ} (p : Rule Fields) (k : Fields → Leaf Key) where
  pub free_refused : {r : Refusal} {q : ℕ} → run s c p ≡ refused r q → EndMeans s b a c out (p >>= λ fs. give (k fs)) (node.Refused r q)
  free_refused h = record { by = rw h }

  pub free_went : {e : Cursor} {xs : List Cell} (h : ListTook s c e p xs) (v : Leaf Key) → k h.fields ≡ v
      → {q : ℕ} → Put b out v a q → EndMeans s b a c out (p >>= λ fs. give (k fs)) (node.Is q e)
  free_went h v z w = record {
    by = record {
      value = v;
      took = record { is = rw (h.took.is, z); low = h.took.low; ready = h.took.ready };
      writes = w.writes (length s);
      paid = let m = w.most in omega (arith, m);
    };
  }
