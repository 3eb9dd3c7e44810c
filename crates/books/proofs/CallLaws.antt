-- 02 (i): "Within a book a `preset` with an item's name calls it", and no other node does.
use Prim.Native.Nat.{ℕ}
use mathlib.Core.Bool.{true, false}
use mathlib.Core.List.{List}
use mathlib.Core.Option.{some}
use mathlib.Core.Path.{◌≡◌, refl}
use lib.ListN.{get_elem?}
use borrow.Author.Tests.{eq-eqb}
use Rattle.text.specs.Bytes.{part, one_of}
use Rattle.text.specs.Words.{find}
use Rattle.ast.specs.Tree as tree
use Rattle.ast.specs.Tree.{Nodes, leaf}
use Rattle.books.specs.Book.{Item, names}
use Rattle.books.specs.Calls.{calls}

-- of an item whose body is one node
module _ (t : List ℕ) (xs : List Item) (x : Item) (i j p : ℕ) (e : get_elem? xs i ≡ some x) where
  pub preset_calls : (q : tree.PresetCall) → x.nodes ≡ leaf p (tree.preset q) Nodes.none
      → find (names xs) 0 (part t q.name.start q.name.size) ≡ some j
      → calls t xs i j ≡ true
  unfolding calls one_of
  preset_calls q f g = rw (e, f, g, eq-eqb j j refl)

  pub label_silent : (s : tree.Span) → x.nodes ≡ leaf p (tree.label s) Nodes.none → calls t xs i j ≡ false
  unfolding calls one_of
  label_silent s f = rw (e, f)
