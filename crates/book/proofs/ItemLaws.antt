-- A body and an item, from the answers of their parts.
use Prim.Native.Nat.{ℕ, suc, ◌+◌, ◌≤◌}
use mathlib.Core.List.{List}
use mathlib.Core.Path.{◌≡◌, refl}
use native.Mathlib.Omega.{arith}
use lib.ListN.{length}
use Rattle.error.specs.declared.Refusal.{Refusal}
use Rattle.error.specs.declared.Refusal.TheVariants.{Missing}
use Rattle.sheet_encode.specs.WriteMeans.{Writes}
use Rattle.ast.specs.declared.Span.{Span}
use Rattle.grammar.specs.Rule.{refused, the_byte, leave, inside, word}
use Rattle.grammar.specs.Grammar.{animato_input}
use Rattle.read_cursor.specs.WordMeans.{at_of}
use Rattle.read_cursor.specs.Means.{Ready, run, Took, spelled}
use Rattle.read_cursor.specs.declared.Cursor.{Cursor}
use Rattle.read_blocks.specs.Means.{Reached, parse_nodes, NodesWent}
use Rattle.read_blocks.proofs.BlockLaws.{block-bytes}
use Rattle.sheet_encode.proofs.OverLaws.{writes_counted}
use Rattle.codec.specs.Codec.{big}
use Rattle.ast.specs.Tree.{width}
use Rattle.sheet.specs.Sheet.{encode}
use Rattle.read_blocks.specs.declared.Siblings.{Siblings}
use Rattle.books.specs.Book as book
use Rattle.book.specs.Means.{BodyWent, ItemWent}
use Rattle.book.specs.declared.Body.{Body}

-- ---- a body

pub reached : {s : List ℕ} {c m : Cursor} → Ready s c → Took 1 s c m (the_byte 123) tt → Reached s m 2
reached r t = record { short = r.short; low = omega arith }

pub no_brace : (s : List ℕ) (c : Cursor) {q : ℕ} → run s c (the_byte 123) ≡ refused Missing q
    → run s c (inside "{" book.body) ≡ refused Missing q
no_brace s c h = rw h

pub body_refused : {s : List ℕ} {c m : Cursor} {r : Refusal} {q : ℕ} → Took 1 s c m (the_byte 123) tt → run s m (parse_nodes 16) ≡ refused r q
    → run s c (inside "{" book.body) ≡ refused r q
unfolding animato_input
body_refused t h = rw (t.is, h)

pub body_went : {s b b₁ a : List ℕ} {c m e : Cursor} {u : Siblings} {k f : ℕ} → Took 1 s c m (the_byte 123) tt → NodesWent s b b₁ m 2 16 u
    → Writes b₁ 0 ((big 2).write u.width) a f → Took 0 s u.next e (leave 125) tt → k ≡ at_of u.next
    → BodyWent s b a c (record { end = k; bytes = u.end; next = e })
unfolding animato_input encode
body_went {s} {m = m} {u = u} {k = k} t g o l p = record {
  nodes = g.went.value;
  took = record {
    is = rw (t.is, g.went.took.is, l.is, g.went.took.ready.head.place, p);
    low = omega (arith, t.low, g.went.took.low, l.low);
    ready = l.ready;
  };
  from = m;
  to = u.next;
  inner = g.went.took;
  inside = omega (arith, t.low);
  writes = rw (← block-bytes (length s) 16 g.went.value)
      (writes_counted (width g.went.value) refl g.went.writes (rw g.wide at o));
  low = omega (arith, t.low, g.went.took.low);
  high = omega (arith, g.went.took.ready.high);
}

-- ---- an item

pub no_name : (s : List ℕ) (c : Cursor) {q : ℕ} → run s c word ≡ refused Missing q → run s c book.item ≡ refused Missing q
unfolding book.item
no_name s c h = rw h

module _ {s : List ℕ} {c m : Cursor} {w : ℕ × List ℕ} (t : Took 1 s c m word w) where
  pub no_equals : {q : ℕ} → run s m (the_byte 61) ≡ refused Missing q → run s c book.item ≡ refused Missing q
  unfolding book.item
  no_equals h = rw (t.is, h)

  pub no_body : {e : Cursor} {r : Refusal} {q : ℕ} → Took 1 s m e (the_byte 61) tt → run s e (inside "{" book.body) ≡ refused r q
      → run s c book.item ≡ refused r q
  unfolding book.item
  no_body u h = rw (t.is, u.is, h)

pub item_went : {s b a : List ℕ} {c m e : Cursor} {x : Span} {y : Body} {p : ℕ} → Took 1 s c m word (x.start, spelled s x)
    → x.start + x.size ≤ length s → Took 1 s m e (the_byte 61) tt → BodyWent s b a e y → p ≡ at_of e
    → ItemWent s b a c (record { name = x; start = p + 1; body = y })
unfolding book.item
item_went {s} {e = e} {x = x} {y = y} {p = p} t f u g h = record {
  value = record { name = spelled s x; start = suc (at_of e); end = y.end; nodes = g.nodes };
  took = record {
    is = rw (t.is, u.is, g.took.is, u.ready.head.place);
    low = omega (arith, t.low, u.low, g.took.low);
    ready = g.took.ready;
  };
  same = record {
    name = refl;
    start = omega arith;
    end = refl;
    named = f;
    low = omega (arith, g.low);
    high = g.high;
  };
  from = g.from;
  to = g.to;
  inner = g.inner;
  inside = g.inside;
  writes = g.writes;
}
