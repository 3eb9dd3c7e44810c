-- The node path is a target, a string and its end.
use Prim.Native.Nat.{ℕ, ◌+◌, ◌≤◌}
use mathlib.Core.List.{List, [], ◌∷◌}
use mathlib.Core.Path.{◌≡◌}
use native.Mathlib.Omega.{arith}
use lib.ListN.{length}
use Rattle.ast.specs.declared.Span.{Span}
use Rattle.sheet_encode.specs.Means.{span_of}
use Rattle.error.specs.declared.Refusal.{Refusal}
use Rattle.error.specs.declared.Refusal.TheVariants.{Missing, Malformed}
use Rattle.grammar.specs.Rule.{refused, text, word, choice}
use Rattle.grammar.specs.Values.{ident, string}
use Rattle.grammar.specs.Grammar.{parse_path}
use Rattle.read_cursor.specs.Means.{run, Took, spelled}
use Rattle.read_cursor.specs.declared.Cursor.{Cursor}
use Rattle.read_values.proofs.EasingLaws.{spelled-length}
use Rattle.read_node.specs.Means.{LeafMeans, EndMeans}
use Rattle.read_node.specs.declared.NodeRead.{NodeRead}
use Rattle.read_node.specs.declared.NodeRead.TheVariants as node
use Rattle.read_path.specs.Means.{path_end}
use Rattle.read_node.proofs.EndLaws.{whole_node}

module _ {s b a : List ℕ} {c : Cursor} {out : ℕ} where
  pub no_target : {q : ℕ} → run s c word ≡ refused Missing q → LeafMeans s b a c out parse_path (node.Refused Missing q)
  unfolding parse_path ident
  no_target h = record { by = rw h }

  module _ {m : Cursor} (x : Span) (t : Took 1 s c m word (x.start, spelled s x)) where
    pub not_along : {r : Refusal} {q : ℕ} → run s m (choice Malformed ("along" ∷ [])) ≡ refused r q
        → LeafMeans s b a c out parse_path (node.Refused r q)
    unfolding parse_path ident
    not_along h = record { by = rw (t.is, h) }

    module _ {n : Cursor} {i : ℕ} (o : Took 1 s m n (choice Malformed ("along" ∷ [])) i) where
      pub no_svg : {q : ℕ} → run s n text ≡ refused Missing q → LeafMeans s b a c out parse_path (node.Refused Missing q)
      unfolding parse_path ident string
      no_svg h = record { by = rw (t.is, o.is, h) }

      pub path_node : x.start + x.size ≤ length s → {e : Cursor} {y : Span} → Took 1 s n e text (y.start, y.size)
          → {r : NodeRead} → EndMeans s b a e out (path_end (span_of x) (span_of y)) r
          → LeafMeans s b a c out parse_path r
      unfolding parse_path ident string
      path_node l {y = y} w =
          whole_node parse_path (path_end (span_of x) (span_of y))
          (λ v u z.
          record {
            is = rw (t.is, o.is, w.is, spelled-length s x l, z.is);
            low = omega (arith, t.low, o.low, w.low, z.low);
            ready = z.ready;
          })
          (λ r q h. rw (t.is, o.is, w.is, spelled-length s x l, h)) (omega (arith, t.low, o.low, w.low))
