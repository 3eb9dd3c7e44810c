-- Nodes in blocks: a node from its beginning and its block, and nodes one after the other.
use Prim.Native.Nat.{ℕ, zero, suc, ◌+◌, ◌*◌, ◌-◌, ◌≤◌, ◌<◌}
use Prim.Native.String.{String}
use mathlib.Core.Bool.{true, false}
use mathlib.Core.List.{List, [], ◌++◌, append-nil, append_assoc}
use mathlib.Core.Path.{◌≡◌, refl, sym, ap, ◌∙◌, subst}
use native.Mathlib.Omega.{arith}
use lib.ListN.{length}
use Rattle.codec.specs.Codec.{Form, big}
use Rattle.number.specs.Time.{Key}
use Rattle.ast.specs.Tree.{Leaf, tween, spring, keyframes, path, morph, draw, color, waveform, preset, label, at, KeyframeTime, Container}
use Rattle.ast.specs.Tree.{Nodes, leaf, box, MotionNode, single, holding, push, append, width, records, map_leaf, map_times}
use Rattle.sheet.specs.Sheet.{Forest, node_form, forest, inner}
use Rattle.sheet_encode.specs.WriteMeans.{Writes}
use Rattle.sheet_encode.proofs.OverLaws.{writes_none, writes_then, writes_counted}
use Rattle.token.specs.Token.{Token, place}
use Rattle.error.specs.declared.Refusal.{Refusal}
use Rattle.error.specs.declared.Refusal.TheVariants.{Missing, TooManyNested}
use Rattle.grammar.specs.Rule.{Notes, Out, got, Rule, refused, after, give, ◌>>=◌, leave, sees_byte, ends, the_byte, more, done}
use Rattle.grammar.specs.Grammar.{stored, containers, a_container, node_by, parse_node, one_node, nodes_step, block}
use Rattle.read_cursor.specs.WordMeans.{at_of}
use Rattle.read_cursor.specs.Means.{Ready, tokens, run, Took, Follows}
use Rattle.read_cursor.specs.declared.Cursor.{Cursor}
use Rattle.read_cursor.proofs.CursorLaws.{took_mark, stays}
use Rattle.read_fields.proofs.FieldLaws.{by_step}
use Rattle.read_fields.proofs.ListLaws.{Listed, listed_start, listed_gives, listed_done}
use Rattle.read_arrays.specs.Means.{Room}
use Rattle.read_heads.proofs.RowLaws.{Each, by_row}
use Rattle.read_arrays.proofs.ArrayLaws.{mark_seen, mark_unseen}
use Rattle.read_node.specs.Means.{leaf_kind, leaf_fields}
use Rattle.read_blocks.specs.Means.{container_kind, container_kind_at, front_bytes, LeafBegun, ContainerBegun, HeadWent, Reached, Headed}
use Rattle.read_blocks.specs.Means.{Counted, node_bytes, nodes_bytes, NodeWent, NodeMeans, BlockWent, BlockMeans, Held, held_by}
use Rattle.read_blocks.specs.Means.{HeldMeans}
use Rattle.read_blocks.specs.Means.{Standing, Stepped, Ended, parse_nodes, NodesWent}
use Rattle.read_blocks.specs.declared.ParsedNode.{ParsedNode}
use Rattle.read_blocks.specs.declared.ParsedNode.TheVariants as node
use Rattle.read_blocks.specs.declared.Siblings.{Siblings}
use Rattle.read_blocks.proofs.KindLaws.{held-kind, container_kind_lem}
use Rattle.read_blocks.proofs.HeadLaws.{head_then}

-- ---- the `{` of a block

pub no_brace : (s : List ℕ) (c : Cursor) (d q : ℕ) → run s c (the_byte 123) ≡ refused Missing q → run s c (block d) ≡ refused Missing q
unfolding block
no_brace s c zero q h =
    let e = mark_unseen s c 123 q h in
    let g : Prim.Path (Out Unit) (refused Missing (place (tokens s c))) (refused Missing q) = rw e at h in
    let p : place (tokens s c) ≡ q = cc in
    rw (e, p)
no_brace s c (suc d) q h = rw h

-- "a 17th container inside 16 others": 12, at "its `{`"
pub too_deep : (s : List ℕ) (c m : Cursor) (d : ℕ) → Ready s c → Took 1 s c m (the_byte 123) tt
    → d ≡ 0
    → run s c (block d) ≡ refused TooManyNested (at_of c)
unfolding block
too_deep s c m d r t e = rw (e, mark_seen s c m 123 t, r.head.place)

-- ---- the bytes of nodes

width-map : (ns : Nodes Key) → width (map_times stored ns) ≡ width ns
width-map Nodes.none = refl
width-map (leaf p l rest) = ap suc (width-map rest)
width-map (box p k ns rest) = ap suc (width-map rest)

-- the nodes in a block are their count, and each of them
pub block-bytes : (n d : ℕ) (ns : Nodes Key) → (big 2).write (width ns) ++ nodes_bytes n d ns ≡ (inner n (suc d)).write (map_times stored ns)
block-bytes n d ns = let m = map_times stored ns in sym (ap (λ (w : ℕ). (big 2).write w ++ (forest n (inner n d) w).write m) (width-map ns))

-- one node more
bytes-more : (n d : ℕ) (ns : Nodes Key) (x : MotionNode Key)
    → nodes_bytes n d (append ns (push x Nodes.none)) ≡ nodes_bytes n d ns ++ node_bytes n d x
bytes-more n d Nodes.none (single p l) = append-nil _
bytes-more n d Nodes.none (holding p k ns) = append-nil _
bytes-more n d (leaf p l rest) x =
    ap (λ (t : List ℕ). node_bytes n d (single p l) ++ t) (bytes-more n d rest x)
    ∙ sym (append_assoc (node_bytes n d (single p l)) (nodes_bytes n d rest) (node_bytes n d x))
bytes-more n d (box p k ns rest) x =
    ap (λ (t : List ℕ). node_bytes n d (holding p k ns) ++ t) (bytes-more n d rest x)
    ∙ sym (append_assoc (node_bytes n d (holding p k ns)) (nodes_bytes n d rest) (node_bytes n d x))

width-more : (ns : Nodes Key) (x : MotionNode Key) → width (append ns (push x Nodes.none)) ≡ width ns + 1
width-more Nodes.none (single p l) = refl
width-more Nodes.none (holding p k ns) = refl
width-more (leaf p l rest) x = let e = width-more rest x in omega arith
width-more (box p k ns rest) x = let e = width-more rest x in omega arith

records-more : (ns : Nodes Key) (x : MotionNode Key) → records (append ns (push x Nodes.none)) ≡ records ns + records (push x Nodes.none)
records-more Nodes.none x = omega arith
records-more (leaf p l rest) x = let e = records-more rest x in omega arith
records-more (box p k ns rest) x = let e = records-more rest x in omega arith

-- ---- a node

pub headed_room : {s : List ℕ} {c : Cursor} {out : ℕ} → Ready s c → Headed s c out → Room s out
headed_room r h = record { short = h.short; low = omega (arith, h.low, h.short, r.high) }

-- a leaf is the front of its record, and then its fields
leaf_then : (n start : ℕ) (blk : Form Forest) (l : Leaf KeyframeTime)
    → (node_form n blk).write (single start l) ≡ front_bytes (leaf_kind l) start ++ leaf_fields n l
leaf_then n start blk (tween x) = refl
leaf_then n start blk (spring x) = refl
leaf_then n start blk (keyframes x) = refl
leaf_then n start blk (path x) = refl
leaf_then n start blk (morph x) = refl
leaf_then n start blk (draw x) = refl
leaf_then n start blk (color x) = refl
leaf_then n start blk (waveform x) = refl
leaf_then n start blk (preset x) = refl
leaf_then n start blk (label x) = refl
leaf_then n start blk (at x) = refl

kind-map : (l : Leaf Key) → leaf_kind (map_leaf stored l) ≡ leaf_kind l
kind-map (tween x) = refl
kind-map (spring x) = refl
kind-map (keyframes x) = refl
kind-map (path x) = refl
kind-map (morph x) = refl
kind-map (draw x) = refl
kind-map (color x) = refl
kind-map (waveform x) = refl
kind-map (preset x) = refl
kind-map (label x) = refl
kind-map (at x) = refl

pub node_leaf : {s b a : List ℕ} {c m : Cursor} {out q : ℕ} (d : ℕ) → LeafBegun 1 s b a c m out q parse_node
    → NodeWent 1 (parse_node (block d)) s b a c m out q d 1
node_leaf {s} d h = record {
  went = record {
    value = single h.start h.value;
    took = h.took (block d);
    writes = rw (leaf_then (length s) h.start (inner (length s) d) (map_leaf stored h.value), kind-map h.value) h.writes;
    paid = omega (arith, h.paid, (h.took (block d)).low);
  };
  count = refl;
  few = omega (arith, (h.took (block d)).low);
}

-- a container's rule from its head and its block, as a node's rule has it
module _ (s : List ℕ) (m : Cursor) (p : Rule Container) (d : ℕ) where
  held_as : (start : ℕ)
      → run s m (node_by (block d) start (a_container p)) ≡ after (run s m (held_by p d)) (λ x. give (holding start x.0 x.1))
  held_as start = go (run s m p)
    where
      more : (k : Container) (o : Out (Nodes Key))
          → after o (λ ns. give (holding start k ns))
          ≡ after (after o (λ ns. give (k, ns))) (λ (x : Held). give (holding start x.0 x.1))
      more k (got ns l ts) = refl
      more k (refused r q) = refl

      go : (o : Out Container)
          → after o (λ k. block d >>= λ ns. give (holding start k ns))
          ≡ after (after o (λ k. block d >>= λ ns. give (k, ns))) (λ (x : Held). give (holding start x.0 x.1))
      go (got k l ts) = more k (block d l ts)
      go (refused r q) = refl

  held_node : (start : ℕ) {x : Held} {l : Notes} {ts : List Token} → run s m (held_by p d) ≡ got x l ts
      → run s m (node_by (block d) start (a_container p)) ≡ got (holding start x.0 x.1) l ts
  held_node start h = held_as start ∙ (rw h)

  held_refused : (start : ℕ) {r : Refusal} {q : ℕ} → run s m (held_by p d) ≡ refused r q
      → run s m (node_by (block d) start (a_container p)) ≡ refused r q
  held_refused start h = held_as start ∙ (rw h)

-- behind the keyword of a container
module _ {s b b₁ : List ℕ} {c m : Cursor} {out at i : ℕ} (g : ContainerBegun 1 s b b₁ c m out at i parse_node) where
  pub keyword_headed : Reached s c out → Headed s m at
  keyword_headed h = record { short = h.short; low = omega (arith, h.low, g.low, g.writes.place) }

  from_row : (a : List ℕ) (d : ℕ) (r : ParsedNode) → HeldMeans g.row.1 s b₁ a m at d r
      → NodeMeans 1 (parse_node (block d)) s b a c out d r
  from_row a d (node.Is q e k) h =
      let x = h.went.value in
      let z : container_kind x.0 ≡ container_kind_at i = held-kind _ d g.row.1 (container_kind_lem i g.row g.found) _ _ _ _ _
      h.went.took.is
      in
      record {
        went = record {
          value = holding g.start x.0 x.1;
          took = record {
            is = g.is (block d) ∙ held_node s m g.row.1 d g.start h.went.took.is;
            low = omega (arith, g.low, h.went.took.low);
            ready = h.went.took.ready;
          };
          writes = rw (head_then (length s) g.start (inner (length s) d) x.0 (map_times stored x.1), z)
              (writes_then g.writes h.went.writes);
          paid = omega (arith, g.low, h.went.paid, g.writes.place, h.went.took.low);
        };
        count = omega (arith, h.count);
        few = omega (arith, g.low, h.few);
      }
  from_row a d (node.Refused r q) h = g.is (block d) ∙ held_refused s m g.row.1 d g.start h

  -- the row i of the table is read
  pub node_container : (a : List ℕ) (d : ℕ) (r : ParsedNode)
      → Each (λ (row : String × Rule Container). HeldMeans row.1 s b₁ a m at d r) i 0 containers
      → NodeMeans 1 (parse_node (block d)) s b a c out d r
  node_container a d r h =
      from_row a d r
      (by_row (λ (row : String × Rule Container). HeldMeans row.1 s b₁ a m at d r) i containers g.row g.found h)

-- ---- a container from its head and its block

module _ {s b b₁ : List ℕ} {c m : Cursor} {out q : ℕ} {p : Rule Container} (h : HeadWent s b b₁ c m out q p) where
  pub head_counted : Headed s c out → Counted s m q
  head_counted z = record { short = z.short; low = omega (arith, z.low, h.small, h.took.low) }

  pub head_block : (a : List ℕ) (d : ℕ) (r : ParsedNode) → BlockMeans s b₁ a m q d r → HeldMeans p s b a c out d r
  head_block a d (node.Is end e k) g = record {
    went = record {
      value = (h.value, g.nodes);
      took = record { is = rw (h.took.is, g.took.is); low = omega (arith, h.took.low, g.took.low); ready = g.took.ready };
      writes = writes_then h.writes g.writes;
      paid = omega (arith, h.small, h.took.low, g.paid, g.took.low);
    };
    count = omega (arith, g.number);
    few = omega (arith, h.took.low, g.few);
  }
  head_block a d (node.Refused r e) g = rw (h.took.is, g)

pub head_refused : (s : List ℕ) (c : Cursor) (p : Rule Container) {r : Refusal} {q : ℕ} (d : ℕ) → run s c p ≡ refused r q
    → run s c (held_by p d) ≡ refused r q
head_refused s c p d h = rw h

-- ---- a block, behind its `{`

by_suc : (P : ℕ → Type 0) (d : ℕ) → 0 < d → P (suc (d - 1)) → P d
by_suc P d z h = let e : suc (d - 1) ≡ d = omega arith in subst P e h

module _ {s : List ℕ} {c m : Cursor} (t : Took 1 s c m (the_byte 123) tt) (d : ℕ) (z : 0 < d) where
  pub block_reached : {count : ℕ} → Counted s c count → Reached s m (count + 2)
  block_reached h = record { short = h.short; low = omega (arith, h.low, t.low) }

  pub inside_refused : {r : Refusal} {q : ℕ} → run s m (parse_nodes (d - 1)) ≡ refused r q → run s c (block d) ≡ refused r q
  unfolding block
  inside_refused {r} {q} h = by_suc (λ (j : ℕ). run s c (block j) ≡ refused r q) d z (rw (t.is, h))

  pub block_went : {b b₁ a : List ℕ} {count f : ℕ} {u : Siblings} {e : Cursor} → NodesWent s b b₁ m (count + 2) (d - 1) u
      → Writes b₁ count ((big 2).write u.width) a f → Took 0 s u.next e (leave 125) tt
      → BlockWent s b a c e count u.end d (u.records + 1)
  unfolding block
  block_went {b} {b₁} {a} {count} {f} {u} {e} g p l =
      by_suc (λ (j : ℕ). BlockWent s b a c e count u.end j (u.records + 1)) d z
      (record {
        nodes = g.went.value;
        took = record {
          is = rw (t.is, g.went.took.is, l.is);
          low = omega (arith, t.low, g.went.took.low, l.low);
          ready = l.ready;
        };
        writes = rw (← block-bytes (length s) (d - 1) g.went.value)
            (writes_counted (width g.went.value) refl g.went.writes (rw g.wide at p));
        number = omega (arith, g.count);
        few = omega (arith, t.low, g.few, l.low);
        paid = omega (arith, t.low, g.went.paid, g.went.took.low, l.low);
      })

-- ---- a step of a list of nodes

module _ {s : List ℕ} (b : List ℕ) (d : ℕ) (t : Siblings) (r : Ready s t.next) where
  pub step_end : ends (tokens s t.next) ≡ true → Ended s b b d t t
  unfolding nodes_step
  step_end e = record { took = λ ns. stays s t.next r (nodes_step (block d) ns) (done ns) (rw e); kept = refl; same = refl }

  module _ (e : ends (tokens s t.next) ≡ false) where
    -- a `;` is passed
    pub step-pass : {u : Cursor} → sees_byte 59 (tokens s t.next) ≡ true → Follows s t.next u
        → Stepped s b b d t (record { end = t.end; next = u; width = t.width; records = t.records })
    unfolding nodes_step
    step-pass {u} f g = let m = took_mark s t.next u r g 59 (omega arith) f in record {
      grown = λ ns. ns;
      took = λ ns. record { is = rw (e, f, g.rest, g.left, g.rounded); low = m.low; ready = g.ready };
      wide = λ ns. refl;
      count = λ ns. refl;
      thin = omega (arith, m.low);
      few = omega (arith, m.low);
      added = [];
      bytes = λ ns. sym (append-nil _);
      writes = writes_none b t.end;
      paid = omega arith;
    }

    -- a node follows
    module _ (f : sees_byte 59 (tokens s t.next) ≡ false) where
      pub step_refused : {x : Refusal} {q : ℕ} → run s t.next (parse_node (block d)) ≡ refused x q
          → (ns : Nodes Key) → run s t.next (nodes_step (block d) ns) ≡ refused x q
      unfolding nodes_step one_node
      step_refused h ns = rw (e, f, h)

      pub step_node : {a : List ℕ} {m : Cursor} {q k : ℕ} → NodeWent 1 (parse_node (block d)) s b a t.next m t.end q d k
          → Stepped s b a d t (record { end = q; next = m; width = t.width + 1; records = t.records + k })
      unfolding nodes_step one_node
      step_node h = record {
        grown = λ ns. append ns (push h.went.value Nodes.none);
        took = λ ns. record { is = rw (e, f, h.went.took.is); low = h.went.took.low; ready = h.went.took.ready };
        wide = λ ns. rw width-more (omega arith);
        count = λ ns. rw records-more (omega (arith, h.count));
        thin = omega (arith, h.went.took.low);
        few = omega (arith, h.few);
        added = node_bytes (length s) d h.went.value;
        bytes = λ ns. bytes-more (length s) d ns h.went.value;
        writes = h.went.writes;
        paid = h.went.paid;
      }

-- ---- nodes one after the other

-- the nodes that began at c stand at t, written from out on; b has become a
pub record Growing (s b a : List ℕ) (c : Cursor) (out d : ℕ) (t : Siblings) : Type 0 where
  pub nodes : Nodes Key
  pub listed : Listed (nodes_step (block d)) s c t.next Nodes.none nodes
  pub wide : t.width ≡ width nodes
  pub count : t.records ≡ records nodes
  pub thin : at_of c + t.width ≤ at_of t.next
  pub few : at_of c + t.records ≤ at_of t.next
  pub writes : Writes b out (nodes_bytes (length s) d nodes) a t.end
  pub paid : t.end ≤ out + 64 * (at_of t.next - at_of c)

pub growing_start : {s : List ℕ} (b : List ℕ) {c : Cursor} (out d : ℕ) → Ready s c
    → Growing s b b c out d (record { end = out; next = c; width = 0; records = 0 })
growing_start {s} b {c} out d r = record {
  nodes = Nodes.none;
  listed = listed_start (nodes_step (block d)) s c Nodes.none r;
  wide = refl;
  count = refl;
  thin = omega arith;
  few = omega arith;
  writes = writes_none b out;
  paid = omega arith;
}

module _ {s b a : List ℕ} {c : Cursor} {out d : ℕ} {t : Siblings} (i : Growing s b a c out d t) where
  pub growing_standing : Reached s c out → Standing s t
  growing_standing h = record {
    ready = i.listed.ready;
    reached = record { short = h.short; low = omega (arith, h.low, i.paid, i.listed.low) };
    thin = omega (arith, i.thin);
    few = omega (arith, i.few);
  }

  pub growing_end : {a' : List ℕ} {u : Siblings} → Ended s a a' d t u → NodesWent s b a' c out d u
  growing_end {a'} {u} x =
      subst (λ (v : Siblings). NodesWent s b a' c out d v) (sym x.kept)
      (subst (λ (l : List ℕ). NodesWent s b l c out d t) (sym x.same)
      (record {
        went = record {
          value = i.nodes;
          took = listed_done
              (nodes_step (block d))
              s c t.next Nodes.none
              i.nodes
              i.listed
              t.next
              i.listed.ready
              (omega arith)
              (by_step (nodes_step (block d)) i.nodes s t.next _ i.listed.ready (λ j l. rw (x.took i.nodes).is));
          writes = i.writes;
          paid = i.paid;
        };
        wide = i.wide;
        count = i.count;
        few = i.few;
      }))

  pub growing_refused : {r : Refusal} {q : ℕ} → ((ns : Nodes Key) → run s t.next (nodes_step (block d) ns) ≡ refused r q)
      → run s c (parse_nodes d) ≡ refused r q
  growing_refused h =
      listed_gives (nodes_step (block d)) s c t.next Nodes.none i.nodes i.listed _
      (by_step (nodes_step (block d)) i.nodes s t.next _ i.listed.ready (λ j l. rw (h i.nodes)))

  pub growing_more : {a' : List ℕ} {u : Siblings} → Stepped s a a' d t u → Growing s b a' c out d u
  growing_more x = record {
    nodes = x.grown i.nodes;
    listed = record {
      low = omega (arith, i.listed.low, (x.took i.nodes).low);
      ready = (x.took i.nodes).ready;
      goes = λ o h. i.listed.goes o
          (by_step (nodes_step (block d)) i.nodes s t.next o i.listed.ready
          (λ j l. rw (x.took i.nodes).is (h j (omega (arith, (x.took i.nodes).low)))));
    };
    wide = omega (arith, i.wide, x.wide i.nodes);
    count = omega (arith, i.count, x.count i.nodes);
    thin = omega (arith, i.thin, x.thin);
    few = omega (arith, i.few, x.few);
    writes = rw x.bytes (writes_then i.writes x.writes);
    paid = omega (arith, i.paid, x.paid, i.listed.low, (x.took i.nodes).low);
  }
