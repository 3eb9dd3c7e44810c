-- The node draw is its string and its end.
use Prim.Native.Nat.{ℕ}
use mathlib.Core.List.{List}
use mathlib.Core.Path.{◌≡◌}
use native.Mathlib.Omega.{arith}
use Rattle.ast.specs.declared.Span.{Span}
use Rattle.sheet_encode.specs.Means.{span_of}
use Rattle.error.specs.declared.Refusal.TheVariants.{Missing}
use Rattle.grammar.specs.Rule.{refused, text}
use Rattle.grammar.specs.Values.{string}
use Rattle.grammar.specs.Grammar.{parse_draw}
use Rattle.read_cursor.specs.Means.{run, Took}
use Rattle.read_cursor.specs.declared.Cursor.{Cursor}
use Rattle.read_node.specs.Means.{LeafMeans, EndMeans}
use Rattle.read_node.specs.declared.NodeRead.{NodeRead}
use Rattle.read_node.specs.declared.NodeRead.TheVariants as node
use Rattle.read_draw.specs.Means.{draw_end}
use Rattle.read_node.proofs.EndLaws.{whole_node}

module _ {s b a : List ℕ} {c : Cursor} {out : ℕ} where
  pub no_svg : {q : ℕ} → run s c text ≡ refused Missing q → LeafMeans s b a c out parse_draw (node.Refused Missing q)
  unfolding parse_draw string
  no_svg h = record { by = rw h }

  pub draw_node : {m : Cursor} {x : Span} → Took 1 s c m text (x.start, x.size)
      → {y : NodeRead} → EndMeans s b a m out (draw_end (span_of x)) y
      → LeafMeans s b a c out parse_draw y
  unfolding parse_draw string
  draw_node {x = x} t =
      whole_node parse_draw (draw_end (span_of x))
      (λ v u z. record { is = rw (t.is, z.is); low = omega (arith, t.low, z.low); ready = z.ready }) (λ r q h. rw (t.is, h)) t.low
