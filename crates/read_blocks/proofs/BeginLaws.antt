-- The beginning of a node: its keyword, and what stands behind it.
use Prim.Native.Nat.{ℕ, ◌<◌}
use mathlib.Core.List.{List}
use mathlib.Core.Option.{none}
use mathlib.Core.Bool.{true, false}
use mathlib.Core.Path.{◌≡◌}
use native.Mathlib.Omega.{arith}
use Rattle.number.specs.Time.{Key}
use Rattle.ast.specs.Tree.{Nodes}
use Rattle.sheet_encode.specs.WriteMeans.{Writes}
use Rattle.sheet_encode.proofs.OverLaws.{writes_then}
use Rattle.error.specs.declared.Refusal.{Refusal}
use Rattle.error.specs.declared.Refusal.TheVariants.{UnknownKeyword, Missing}
use Rattle.grammar.specs.Rule.{refused, Rule, word, sees_name}
use Rattle.grammar.specs.Grammar.{leaves, containers, parse_node}
use Rattle.token.specs.Token.{kind}
use Rattle.read_cursor.specs.WordMeans.{at_of}
use Rattle.read_cursor.specs.Means.{Ready, run, Took, Follows, tokens, listed_in}
use Rattle.read_cursor.proofs.ListedLaws.{unlisted_kind, no_name}
use Rattle.read_cursor.specs.declared.Cursor.{Cursor}
use Rattle.read_node.specs.Means.{leaf_kind}
use Rattle.read_node.specs.declared.NodeRead.TheVariants as read
use Rattle.read_blocks.specs.Means.{KeywordMeans, behind_word, leaf_kind_at, container_kind_at, front_bytes, LeafBegun, ContainerBegun}
use Rattle.read_blocks.specs.Means.{BegunMeans, LeafAtMeans, node_words}
use Rattle.read_blocks.specs.declared.Keyword.TheVariants as keyword
use Rattle.read_blocks.specs.declared.Begun.{Begun}
use Rattle.read_blocks.specs.declared.Begun.TheVariants as begun
use Rattle.read_blocks.proofs.NameLaws.{no_node_word}
use Rattle.read_blocks.proofs.KindLaws.{the-given, place_low, leaf_kind_lem}

-- ---- behind the keyword

-- the place in the table is one of it
pub leaf_low : (w : List ℕ) (i : ℕ) → KeywordMeans w (keyword.Leaf i) → i < 11
unfolding leaves
leaf_low w i k = place_low leaves i k.0 k.1

pub container_low : (w : List ℕ) (i : ℕ) → KeywordMeans w (keyword.Container i) → i < 4
unfolding containers
container_low w i k = place_low containers i k.0 k.1

module _ (s b b₁ : List ℕ) (c : Cursor) (out at start : ℕ) (w : List ℕ) (i : ℕ) where
  -- the front of a leaf's record is written, and its fields behind it
  pub leaf_begun : KeywordMeans w (keyword.Leaf i) → (a : List ℕ) (q : ℕ) (m : Cursor)
      → Writes b out (front_bytes (leaf_kind_at i) start) b₁ at
      → LeafAtMeans s b₁ a c at i (read.Is q m)
      → LeafBegun 0 s b a c m out q (behind_word start w)
  leaf_begun k a q m f h =
      let l = (h.by k.0 k.1).by in
      let e : leaf_kind l.value ≡ leaf_kind_at i = the-given (leaf_kind_lem i k.0 k.1) _ _ _ _ _ l.took.is in
      record {
        start = start;
        value = l.value;
        took = λ blk. record { is = rw (k.2, l.took.is); low = omega (arith, l.took.low); ready = l.took.ready };
        low = omega (arith, l.took.low);
        writes = rw e (writes_then f l.writes);
        paid = omega (arith, f.place, l.paid);
      }

  pub container_begun : Ready s c → KeywordMeans w (keyword.Container i) → Writes b out (front_bytes (container_kind_at i) start) b₁ at
      → ContainerBegun 0 s b b₁ c c out at i (behind_word start w)
  container_begun r k f = record {
    row = k.0;
    found = k.1;
    start = start;
    is = λ blk. rw k.2;
    low = omega arith;
    ready = r;
    writes = f;
  }

pub leaf_refused : (s : List ℕ) (c : Cursor) (start : ℕ) (w : List ℕ) (i : ℕ) (r : Refusal) (q : ℕ) → KeywordMeans w (keyword.Leaf i)
    → {b a : List ℕ} {at : ℕ} → LeafAtMeans s b a c at i (read.Refused r q)
    → (blk : Rule (Nodes Key)) → run s c (behind_word start w blk) ≡ refused r q
leaf_refused s c start w i r q k h blk = rw (k.2, (h.by k.0 k.1).by)

-- ---- from the keyword on

-- "`unknown_keyword`": 7, behind the word; and where no name stands
module _ {s : List ℕ} {c : Cursor} (r : Ready s c) where
  pub unknown_node : {m : Cursor} → Follows s c m → listed_in node_words (tokens s c) ≡ none → sees_name (tokens s c) ≡ true
      → (blk : Rule (Nodes Key)) → run s c (parse_node blk) ≡ refused UnknownKeyword (at_of m)
  unfolding parse_node
  unknown_node {m} f e h blk =
      let u = unlisted_kind (kind (tokens s c)) node_words e h in
      rw (u.1, no_node_word u.0 u.2, f.rest, f.ready.head.place)

  pub no_name_there : sees_name (tokens s c) ≡ false → (blk : Rule (Nodes Key)) → run s c (parse_node blk) ≡ refused Missing (at_of c)
  unfolding parse_node
  no_name_there h blk = rw (no_name (kind (tokens s c)) h, r.head.place)

pub from_keyword : (s b a : List ℕ) (c m : Cursor) (out p : ℕ) (w : List ℕ) (x : Begun)
    → Took 1 s c m word (p, w) → BegunMeans 0 s b a m out (behind_word p w) x
    → BegunMeans 1 s b a c out parse_node x
unfolding parse_node
from_keyword s b a c m out p w (begun.Leaf q e) t h = record {
  start = h.start;
  value = h.value;
  took = λ blk. record { is = rw (t.is, (h.took blk).is); low = omega (arith, t.low, (h.took blk).low); ready = (h.took blk).ready };
  low = omega (arith, t.low, h.low);
  writes = h.writes;
  paid = omega (arith, t.low, h.low, h.paid);
}
from_keyword s b a c m out p w (begun.Container i q e) t h = record {
  row = h.row;
  found = h.found;
  start = h.start;
  is = λ blk. rw (t.is, h.is blk);
  low = omega (arith, t.low, h.low);
  ready = h.ready;
  writes = h.writes;
}
from_keyword s b a c m out p w (begun.Refused r q) t h = λ blk. rw (t.is, h blk)
