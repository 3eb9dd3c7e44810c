-- Nodes and blocks, by the number of containers that may still nest.
use Prim.Native.Nat.{ℕ, zero, suc, ◌+◌, ◌*◌, ◌≤◌, ◌<◌}
use Prim.Native.String.{String}
use mathlib.Core.List.{List, []}
use mathlib.Core.Option.{Option, none, some}
use mathlib.Core.Path.{◌≡◌, refl, ap, ◌∙◌}
use native.Mathlib.Omega.{arith}
use borrow.Author.Tests.{lt-ltb}
use lib.ListN.{length, length-append}
use Rattle.text.specs.Limits.{text_limit}
use Rattle.text.specs.Bytes.{bytes}
use Rattle.text.specs.Words.{under}
use Rattle.number.specs.Time.{Key}
use Rattle.codec.specs.Codec.{Form, big}
use Rattle.codec.proofs.Laws.{All, Law}
use Rattle.sheet.proofs.FormLaws.{small, length-big}
use Rattle.ast.specs.Tree as tree
use Rattle.ast.specs.Tree.{Leaf, Container, KeyframeTime, Nodes, leaf, box, MotionNode, single, holding, push, append}
use Rattle.ast.specs.Tree.{width, records, map_leaf, map_times}
use Rattle.sheet.specs.Sheet as sheets
use Rattle.sheet.specs.Sheet.{Forest, Node, node_form, forest}
use Rattle.sheet.proofs.Laws.{start_l, node_l, OkNodes, inner_l}
use Rattle.error.specs.declared.Refusal.TheVariants.{Missing, TooManyNested}
use Rattle.grammar.specs.Rule.{Rule, give, refuse, ends, sees, repeat, more}
use Rattle.grammar.specs.Grammar.{stored, leaves, containers, a_leaf, a_container, or_container}
use Rattle.grammar.specs.Grammar.{beginning, node_by, parse_node, one_node, nodes_step, block}
use Rattle.law_rules.proofs.RunLaws.{Runs, gives, refuses, then, and, weaken_in, tests, Onto, repeats}
use Rattle.law_rules.proofs.TakeLaws.{Word, a_word_lem, skips_mark, in_group}
use Rattle.law_rules.proofs.ListLaws.{◌also◌, under_row}
use Rattle.law_limits.proofs.ValueLaws.{is_true}
use Rattle.law_limits.proofs.LeafLaws.{LeafRule, tween_runs, spring_runs, path_runs, morph_runs, draw_runs}
use Rattle.law_limits.proofs.LeafLaws.{color_runs, waveform_runs, preset_runs, label_runs, at_runs}
use Rattle.law_limits.proofs.FrameLaws.{keyframes_runs}
use Rattle.law_limits.proofs.HeadLaws.{head_ok, head_size_lem, HeadRule, sequence_runs, parallel_runs, group_runs, stagger_runs}

-- ---- one node more

abbrev node : MotionNode Key → Node
node (single start l) = single start (map_leaf stored l)
node (holding start c ns) = holding start c (map_times stored ns)

map_more : (ns : Nodes Key) (x : MotionNode Key)
    → map_times stored (append ns (push x Nodes.none)) ≡ append (map_times stored ns) (push (node x) Nodes.none)
map_more Nodes.none (single p l) = refl
map_more Nodes.none (holding p c ns) = refl
map_more (leaf p l rest) x = ap (leaf p (map_leaf stored l)) (map_more rest x)
map_more (box p c ns rest) x = ap (box p c (map_times stored ns)) (map_more rest x)

width-more : (ns : Forest) (x : Node) → width (append ns (push x Nodes.none)) ≡ suc (width ns)
width-more Nodes.none (single p l) = refl
width-more Nodes.none (holding p c ns) = refl
width-more (leaf p l rest) x = ap suc (width-more rest x)
width-more (box p c ns rest) x = ap suc (width-more rest x)

module _ (n : ℕ) {inner : Form Forest} (b : Law inner) where
  ok_more : (ns : Forest) (x : Node) → OkNodes n b ns → (node_l n b).ok x → OkNodes n b (append ns (push x Nodes.none))
  ok_more Nodes.none (single p l) h o = (o, tt)
  ok_more Nodes.none (holding p c ns) h o = (o, tt)
  ok_more (leaf p l rest) x h o = (h.0, ok_more rest x h.1 o)
  ok_more (box p c ns rest) x h o = (h.0, ok_more rest x h.1 o)

module _ (n : ℕ) (inner : Form Forest) where
  -- how many bytes the records of some nodes have
  abbrev record_bytes : Forest → ℕ
  record_bytes ns = length ((forest n inner (width ns)).write ns)

  bytes-more : (ns : Forest) (x : Node) → record_bytes (append ns (push x Nodes.none)) ≡ record_bytes ns + length ((node_form n inner).write x)
  bytes-more Nodes.none (single p l) = length-append ((node_form n inner).write (single p l)) [] ∙ omega arith
  bytes-more Nodes.none (holding p c ns) = length-append ((node_form n inner).write (holding p c ns)) [] ∙ omega arith
  bytes-more (leaf p l rest) x =
      let e = bytes-more rest x in
      let f = length-append ((node_form n inner).write (single p l)) ((forest n inner (width rest)).write rest) in
      length-append ((node_form n inner).write (single p l))
      ((forest n inner (width (append rest (push x Nodes.none)))).write (append rest (push x Nodes.none)))
      ∙ omega arith
  bytes-more (box p c ns rest) x =
      let e = bytes-more rest x in
      let f = length-append ((node_form n inner).write (holding p c ns)) ((forest n inner (width rest)).write rest) in
      length-append ((node_form n inner).write (holding p c ns))
      ((forest n inner (width (append rest (push x Nodes.none)))).write (append rest (push x Nodes.none)))
      ∙ omega arith

-- ---- how many records

-- a node's own, and those of the nodes in it
abbrev pub records_in : MotionNode Key → ℕ
records_in (single p l) = 1
records_in (holding p c ns) = suc (records ns)

records-more : (ns : Nodes Key) (x : MotionNode Key) → records (append ns (push x Nodes.none)) ≡ records ns + records_in x
records-more Nodes.none (single p l) = refl
records-more Nodes.none (holding p c ns) = omega arith
records-more (leaf p l rest) x = let e = records-more rest x in omega arith
records-more (box p c ns rest) x = let e = records-more rest x in omega arith

-- a leaf's record has 5 bytes or more
leaf_long : (n : ℕ) (inner : Form Forest) (start : ℕ) (l : Leaf KeyframeTime) → 5 ≤ length ((node_form n inner).write (single start l))
leaf_long n inner start (tree.tween x) = omega arith
leaf_long n inner start (tree.spring x) = omega arith
leaf_long n inner start (tree.keyframes x) = omega arith
leaf_long n inner start (tree.path x) = omega arith
leaf_long n inner start (tree.morph x) = omega arith
leaf_long n inner start (tree.draw x) = omega arith
leaf_long n inner start (tree.color x) = omega arith
leaf_long n inner start (tree.waveform x) = omega arith
leaf_long n inner start (tree.preset x) = omega arith
leaf_long n inner start (tree.label x) = omega arith
leaf_long n inner start (tree.at x) = omega arith

-- ---- a node

module _ (s : List ℕ) (short : length s ≤ text_limit) {inner : Form Forest} (b : Law inner) where
  -- the nodes of a block from q to m
  pub record Blocked (q : ℕ) (ns : Nodes Key) (m : ℕ) : Type 0 where
    pub ok : b.ok (map_times stored ns)
    pub paid : length (inner.write (map_times stored ns)) + 1 + 3 * q ≤ 3 * m
    pub many : 3 * records ns + q ≤ m

  -- a node from q to m, with 2 bytes to spare for the count of the nodes beside it; 3 bytes of text or more for each record
  pub record Noded (q : ℕ) (x : MotionNode Key) (m : ℕ) : Type 0 where
    pub ok : (node_l (length s) b).ok (node x)
    pub paid : length ((node_form (length s) inner).write (node x)) + 2 + 3 * q ≤ 3 * m
    pub many : 3 * records_in x + q ≤ m

  module _ (p : Rule (Nodes Key)) (blocks : (q : ℕ) → q ≤ length s → Runs s p q (Blocked q)) where
    -- behind the keyword w, i is the place of what follows
    module _ (q i : ℕ) (w : ℕ × List ℕ) (x : Word s q w i) (h : i ≤ length s) where
      -- the keyword starts in the text
      started : (start_l (length s)).ok w.0
      started =
          let l : w.0 < length s = omega (arith, x.some, x.end) in
          (small 2 w.0 (omega (arith, short)), is_true (lt-ltb w.0 (length s) l))

      leaf_by : (r : Rule (Leaf Key)) (v : String) (k : ℕ) → length (bytes v) ≡ k
          → LeafRule s short b k r → w.1 ≡ bytes v → Runs s (node_by p w.0 (a_leaf r)) i (Noded q)
      leaf_by r v k l y e =
          then (y i h x.behind)
          (λ a m g z.
          let f = ap length e in
          gives g
          (record {
            ok = z.ok w.0 started;
            paid = omega (arith, z.paid w.0, x.low, x.end);
            many = omega (arith, leaf_long (length s) inner w.0 (map_leaf stored a), z.paid w.0, x.low, x.end);
          }))

      box_by : (r : Rule Container) (v : String) (k : ℕ) → length (bytes v) ≡ k → 3 ≤ k
          → HeadRule s short k r → w.1 ≡ bytes v → Runs s (node_by p w.0 (a_container r)) i (Noded q)
      box_by r v k l three y e =
          then (y i h)
          (λ c m1 g1 x1.
          then (blocks m1 g1)
          (λ ns m2 g2 x2.
          let f = ap length e in
          gives g2
          (record {
            ok = head_ok (length s) b w.0 c (map_times stored ns) started x1.ok x2.ok;
            paid = omega (arith, head_size_lem (length s) inner w.0 c (map_times stored ns), x.low, x.end, x1.paid, x2.paid);
            many = omega (arith, x.low, x.end, x1.on, x2.many);
          })))

      all-leaves : All (λ f. w.1 ≡ bytes f.0 → Runs s (node_by p w.0 (a_leaf f.1)) i (Noded q)) leaves
      unfolding leaves
      all-leaves =
          leaf_by _ "tween" 5 refl (tween_runs s short b)
          also leaf_by _ "spring" 6 refl (spring_runs s short b)
          also leaf_by _ "keyframes" 9 refl (keyframes_runs s short b)
          also leaf_by _ "path" 4 refl (path_runs s short b)
          also leaf_by _ "morph" 5 refl (morph_runs s short b)
          also leaf_by _ "draw" 4 refl (draw_runs s short b)
          also leaf_by _ "color" 5 refl (color_runs s short b)
          also leaf_by _ "waveform" 8 refl (waveform_runs s short b)
          also leaf_by _ "preset" 6 refl (preset_runs s short b)
          also leaf_by _ "label" 5 refl (label_runs s short b)
          also leaf_by _ "at" 2 refl (at_runs s short b)
          also tt

      all-containers : All (λ f. w.1 ≡ bytes f.0 → Runs s (node_by p w.0 (a_container f.1)) i (Noded q)) containers
      unfolding containers
      all-containers =
          box_by _ "sequence" 8 refl (omega arith) (sequence_runs s short)
          also box_by _ "parallel" 8 refl (omega arith) (parallel_runs s short)
          also box_by _ "group" 5 refl (omega arith) (group_runs s short)
          also box_by _ "stagger" 7 refl (omega arith) (stagger_runs s short)
          also tt

      begins : Runs s (node_by p w.0 (beginning w.1)) i (Noded q)
      unfolding beginning
      begins = go (under leaves w.1) (under containers w.1) refl refl
        where
          go : (o : Option (Rule (Leaf Key))) (c : Option (Rule Container))
              → under leaves w.1 ≡ o → under containers w.1 ≡ c
              → Runs s (node_by p w.0 (or_container o c)) i (Noded q)
          go (some r) c e f = under_row (λ r. Runs s (node_by p w.0 (a_leaf r)) i (Noded q)) leaves w.1 r all-leaves e
          go none (some r) e f = under_row (λ r. Runs s (node_by p w.0 (a_container r)) i (Noded q)) containers w.1 r all-containers f
          go none none e f = refuses

    node_runs : (q : ℕ) → q ≤ length s → Runs s (parse_node p) q (Noded q)
    unfolding parse_node
    node_runs q h = then (a_word_lem h) (λ w m g x. begins q m w x g)

    -- ---- nodes beside each other

    -- nodes that begin at q
    pub record Several (q : ℕ) (ns : Nodes Key) (m : ℕ) : Type 0 where
      pub ok : OkNodes (length s) b (map_times stored ns)
      pub count : width (map_times stored ns) + q ≤ m
      pub paid : record_bytes (length s) inner (map_times stored ns) + 2 * width (map_times stored ns) + 3 * q ≤ 3 * m
      pub many : 3 * records ns + q ≤ m

    several_more : (q : ℕ) (ns : Nodes Key) (m : ℕ) (x : MotionNode Key) (k : ℕ)
        → Several q ns m → Noded m x k → Several q (append ns (push x Nodes.none)) k
    several_more q ns m x k y z =
        let e = map_more ns x in
        let c = width-more (map_times stored ns) (node x) in
        record {
          ok = rw e (ok_more (length s) b (map_times stored ns) (node x) y.ok z.ok);
          count = rw (e, c) (omega (arith, y.count, z.paid));
          paid = rw (e, bytes-more, c) (omega (arith, y.paid, z.paid));
          many = omega (arith, records-more ns x, y.many, z.many);
        }

    step_runs : (q : ℕ) (ns : Nodes Key) (m : ℕ) → m ≤ length s → Several q ns m → Runs s (nodes_step p ns) m (Onto (Several q) (Several q))
    unfolding nodes_step one_node
    step_runs q ns m g y =
        tests ends (λ e. gives g y)
        (λ e. tests (sees ";")
        (λ f. and {f = give (more ns)} (skips_mark g 59 refl f)
        (λ k h u z. gives h
        (record {
          ok = y.ok;
          count = omega (arith, y.count, z.on);
          paid = omega (arith, y.paid, z.on);
          many = omega (arith, y.many, z.on);
        })))
        (λ f. then (node_runs m g) (λ x k h z. gives h (several_more q ns m x k y z))))

    pub nodes-run : (q : ℕ) → q ≤ length s → Runs s (repeat (nodes_step p) Nodes.none) q (Several q)
    nodes-run q h =
        repeats
        (Several q)
        (Several q)
        (λ ns m y. y)
        (nodes_step p)
        (step_runs q)
        h
        (record { ok = tt; count = omega arith; paid = omega arith; many = omega arith })

-- ---- blocks

module _ (s : List ℕ) (short : length s ≤ text_limit) where
  -- nodes with their count
  pub sized_ok : (d : ℕ) (ns : Forest) → width ns ≤ length s → OkNodes (length s) (inner_l (length s) d) ns
      → (inner_l (length s) (suc d)).ok ns
  sized_ok d ns h o = (small 2 (width ns) (omega (arith, short)), o)

  sized-length : (d : ℕ) (ns : Forest)
      → length ((sheets.inner (length s) (suc d)).write ns) ≡ 2 + record_bytes (length s) (sheets.inner (length s) d) ns
  sized-length d ns =
      length-append ((big 2).write (width ns)) ((forest (length s) (sheets.inner (length s) d) (width ns)).write ns)
      ∙ (let e = length-big 2 (width ns) in omega arith)

  pub block_runs : (d : ℕ) (q : ℕ) → q ≤ length s → Runs s (block d) q (Blocked s short (inner_l (length s) d) q)
  unfolding block
  block_runs zero q h = record {
    run = λ l. (tests {Q = Blocked s short (inner_l (length s) 0) q} (sees "{") {p = refuse TooManyNested} {r = refuse Missing}
        (λ e. refuses) (λ e. refuses)).run l;
    keeps = λ l. (tests {Q = Blocked s short (inner_l (length s) 0) q} (sees "{") {p = refuse TooManyNested} {r = refuse Missing}
        (λ e. refuses) (λ e. refuses)).keeps l;
  }
  block_runs (suc d) q h = record {
    run = λ l. (weaken_in {Q = Blocked s short (inner_l (length s) (suc d)) q}
        (in_group (repeat (nodes_step (block d)) Nodes.none) (Several s short (inner_l (length s) d) (block d) (block_runs d)) h 123 refl
        (nodes-run s short (inner_l (length s) d) (block d) (block_runs d)))
        (λ ns m g x.
        record {
          ok = sized_ok d (map_times stored ns) (omega (arith, x.inner.count, x.left.low)) x.inner.ok;
          paid = rw (sized-length d (map_times stored ns)) (omega (arith, x.low, x.inner.paid, x.left.low));
          many = omega (arith, x.low, x.inner.many, x.left.low);
        })).run
        l;
    keeps = λ l. (weaken_in {Q = Blocked s short (inner_l (length s) (suc d)) q}
        (in_group (repeat (nodes_step (block d)) Nodes.none) (Several s short (inner_l (length s) d) (block d) (block_runs d)) h 123 refl
        (nodes-run s short (inner_l (length s) d) (block d) (block_runs d)))
        (λ ns m g x.
        record {
          ok = sized_ok d (map_times stored ns) (omega (arith, x.inner.count, x.left.low)) x.inner.ok;
          paid = rw (sized-length d (map_times stored ns)) (omega (arith, x.low, x.inner.paid, x.left.low));
          many = omega (arith, x.low, x.inner.many, x.left.low);
        })).keeps
        l;
  }

  -- all the nodes of a text: each pays 2 bytes more than its records have, and one node's 2 are enough for the head
  pub top_small : (d : ℕ) (ns : Forest) (m : ℕ) → m ≤ length s
      → record_bytes (length s) (sheets.inner (length s) d) ns + 2 * width ns + 3 * 0 ≤ 3 * m
      → length ((sheets.inner (length s) (suc d)).write ns) ≤ 49152
  top_small d Nodes.none m h p = omega arith
  top_small d (leaf at l rest) m h p = omega (arith, short, sized-length d (leaf at l rest))
  top_small d (box at c ns rest) m h p = omega (arith, short, sized-length d (box at c ns rest))
