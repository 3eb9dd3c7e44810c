-- The node color is a target, two strings and its end.
use Prim.Native.Nat.{ℕ, ◌+◌, ◌≤◌}
use mathlib.Core.List.{List}
use mathlib.Core.Path.{◌≡◌}
use native.Mathlib.Omega.{arith}
use lib.ListN.{length}
use Rattle.ast.specs.declared.Span.{Span}
use Rattle.sheet_encode.specs.Means.{span_of}
use Rattle.error.specs.declared.Refusal.TheVariants.{Missing}
use Rattle.grammar.specs.Rule.{refused, text, word, the_byte, both_bytes}
use Rattle.grammar.specs.Values.{ident, string}
use Rattle.grammar.specs.Grammar.{parse_color}
use Rattle.read_cursor.specs.Means.{run, Took, spelled}
use Rattle.read_cursor.specs.declared.Cursor.{Cursor}
use Rattle.read_values.proofs.EasingLaws.{spelled-length}
use Rattle.read_node.specs.Means.{LeafMeans, EndMeans}
use Rattle.read_node.specs.declared.NodeRead.{NodeRead}
use Rattle.read_node.specs.declared.NodeRead.TheVariants as node
use Rattle.read_color.specs.Means.{color_strings, color_end}
use Rattle.read_node.proofs.EndLaws.{whole_node, whole_end}

-- ---- behind the `:`

module _ {s b a : List ℕ} {c : Cursor} {out : ℕ} (g : Span) where
  pub no_from : {q : ℕ} → run s c text ≡ refused Missing q → EndMeans s b a c out (color_strings (span_of g)) (node.Refused Missing q)
  unfolding string
  no_from h = record { by = rw h }

  module _ {m : Cursor} {x : Span} (t : Took 1 s c m text (x.start, x.size)) where
    pub no_arrow : {q : ℕ} → run s m (both_bytes 61 62) ≡ refused Missing q
        → EndMeans s b a c out (color_strings (span_of g)) (node.Refused Missing q)
    unfolding string
    no_arrow h = record { by = rw (t.is, h) }

    module _ {n : Cursor} (o : Took 1 s m n (both_bytes 61 62) tt) where
      pub no_to : {q : ℕ} → run s n text ≡ refused Missing q → EndMeans s b a c out (color_strings (span_of g)) (node.Refused Missing q)
      unfolding string
      no_to h = record { by = rw (t.is, o.is, h) }

      pub strings_end : {e : Cursor} {y : Span} → Took 1 s n e text (y.start, y.size)
          → {r : NodeRead} → EndMeans s b a e out (color_end (span_of g) (span_of x) (span_of y)) r
          → EndMeans s b a c out (color_strings (span_of g)) r
      unfolding string
      strings_end {y = y} w =
          whole_end (color_strings (span_of g)) (color_end (span_of g) (span_of x) (span_of y))
          (λ v u z.
          record { is = rw (t.is, o.is, w.is, z.is); low = omega (arith, t.low, o.low, w.low, z.low); ready = z.ready })
          (λ r q h. rw (t.is, o.is, w.is, h)) (omega (arith, t.low, o.low, w.low))

-- ---- the node

module _ {s b a : List ℕ} {c : Cursor} {out : ℕ} where
  pub no_target : {q : ℕ} → run s c word ≡ refused Missing q → LeafMeans s b a c out parse_color (node.Refused Missing q)
  unfolding parse_color ident
  no_target h = record { by = rw h }

  module _ {m : Cursor} (x : Span) (t : Took 1 s c m word (x.start, spelled s x)) where
    pub no_colon : {q : ℕ} → run s m (the_byte 58) ≡ refused Missing q → LeafMeans s b a c out parse_color (node.Refused Missing q)
    unfolding parse_color ident
    no_colon h = record { by = rw (t.is, h) }

    pub color_node : x.start + x.size ≤ length s → {n : Cursor} → Took 1 s m n (the_byte 58) tt
        → {r : NodeRead} → EndMeans s b a n out (color_strings (span_of x)) r
        → LeafMeans s b a c out parse_color r
    unfolding parse_color ident
    color_node l o =
        whole_node parse_color (color_strings (span_of x))
        (λ v u z.
        record { is = rw (t.is, o.is, spelled-length s x l, z.is); low = omega (arith, t.low, o.low, z.low); ready = z.ready })
        (λ r q h. rw (t.is, o.is, spelled-length s x l, h)) (omega (arith, t.low, o.low))
