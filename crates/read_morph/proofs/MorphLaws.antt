-- The node morph is its two strings and its end.
use Prim.Native.Nat.{ℕ}
use mathlib.Core.List.{List}
use mathlib.Core.Path.{◌≡◌}
use native.Mathlib.Omega.{arith}
use Rattle.ast.specs.declared.Span.{Span}
use Rattle.sheet_encode.specs.Means.{span_of}
use Rattle.error.specs.declared.Refusal.TheVariants.{Missing}
use Rattle.grammar.specs.Rule.{refused, text, both_bytes}
use Rattle.grammar.specs.Values.{string}
use Rattle.grammar.specs.Grammar.{parse_morph}
use Rattle.read_cursor.specs.Means.{run, Took}
use Rattle.read_cursor.specs.declared.Cursor.{Cursor}
use Rattle.read_node.specs.Means.{LeafMeans, EndMeans}
use Rattle.read_node.specs.declared.NodeRead.{NodeRead}
use Rattle.read_node.specs.declared.NodeRead.TheVariants as node
use Rattle.read_morph.specs.Means.{morph_end}
use Rattle.read_node.proofs.EndLaws.{whole_node}

module _ {s b a : List ℕ} {c : Cursor} {out : ℕ} where
  pub no_from : {q : ℕ} → run s c text ≡ refused Missing q → LeafMeans s b a c out parse_morph (node.Refused Missing q)
  unfolding parse_morph string
  no_from h = record { by = rw h }

  module _ {m : Cursor} {x : Span} (t : Took 1 s c m text (x.start, x.size)) where
    pub no_arrow : {q : ℕ} → run s m (both_bytes 61 62) ≡ refused Missing q → LeafMeans s b a c out parse_morph (node.Refused Missing q)
    unfolding parse_morph string
    no_arrow h = record { by = rw (t.is, h) }

    module _ {n : Cursor} (o : Took 1 s m n (both_bytes 61 62) tt) where
      pub no_to : {q : ℕ} → run s n text ≡ refused Missing q → LeafMeans s b a c out parse_morph (node.Refused Missing q)
      unfolding parse_morph string
      no_to h = record { by = rw (t.is, o.is, h) }

      pub morph_node : {e : Cursor} {y : Span} → Took 1 s n e text (y.start, y.size)
          → {r : NodeRead} → EndMeans s b a e out (morph_end (span_of x) (span_of y)) r
          → LeafMeans s b a c out parse_morph r
      unfolding parse_morph string
      morph_node {y = y} w =
          whole_node parse_morph (morph_end (span_of x) (span_of y))
          (λ v u z.
          record { is = rw (t.is, o.is, w.is, z.is); low = omega (arith, t.low, o.low, w.low, z.low); ready = z.ready })
          (λ r q h. rw (t.is, o.is, w.is, h)) (omega (arith, t.low, o.low, w.low))
