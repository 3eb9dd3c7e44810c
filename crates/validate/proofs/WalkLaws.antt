-- One walk over nodes: whether they are there, and their first fault, under a list of colours.
use Rattle.std.specs.Prelude.{Some, None, Option as Optional}
use Rattle.std.specs.Option.{option_or}
use Prim.Native.Nat.{ℕ, suc, ◌+◌, ◌-◌, ◌≤◌, ◌<◌}
use mathlib.Core.List.{List}
use mathlib.Core.Option.{Option, none, some}
use mathlib.Core.Path.{◌≡◌, refl, ◌∙◌, ap}
use native.Mathlib.Nat.{add-zero}
use native.Mathlib.Numerals.{add-one}
use native.Mathlib.Omega.{arith}
use lib.ListN.{length}
use Rattle.text.specs.Words.{or_else}
use Rattle.codec.specs.Codec.{Form}
use Rattle.ast.specs.Tree.{Nodes, single, holding, push, records}
use Rattle.sheet.specs.Sheet.{Node, Forest, node_form, forest, inner}
use Rattle.sheet_decode.specs.Means.{Lost, Reads}
use Rattle.sheet_records.specs.Means.{record_form}
use Rattle.sheet_records.specs.declared.Kind.{Kind}
use Rattle.sheet_records.specs.declared.Kind.TheVariants as kind
use Rattle.sheet_records.proofs.RecordLaws.{moves}
use Rattle.sheet_records.proofs.WalkLaws as walks
use Rattle.sheet_records.proofs.WalkLaws.{Single, Holds}
use Rattle.colors.specs.Css.{names_of}
use Rattle.error.specs.declared.Refusal.{Refusal}
use Rattle.checking.specs.Rules.{at_ordinal, validate_leaf, validate_container, validate_nodes}
use Rattle.validate.specs.WalkMeans.{record_view, found_of, nodes_view, Reached, NodeWalk, NodesWalk}
use Rattle.validate.specs.declared.nodes.Walk.{Walk}

or_none : {A : Type 0} (o : Option A) → or_else o none ≡ o
or_none none = refl
or_none (some a) = refl

or_assoc : {A : Type 0} (x y z : Option A) → or_else (or_else x y) z ≡ or_else x (or_else y z)
or_assoc none y z = refl
or_assoc (some a) y z = refl

-- a fault with an ordinal
abbrev Fault : Type 0
Fault = Option (Refusal × ℕ)

-- the first of two
pub or_found : (a b : Optional (Refusal × ℕ)) → found_of (option_or a b) ≡ or_else (found_of a) (found_of b)
or_found None b = refl
or_found (Some f) b = refl

-- ---- a node: its record, then the nodes in it

module _ (list : ℕ) (t : List ℕ) (i d : ℕ) where
  -- of one node
  abbrev node_view : Node → Fault × ℕ
  node_view x = nodes_view list t i (push x Nodes.none)

  module _ {s : List ℕ} {at m : ℕ} {o : Option Refusal} where
    leaf_reads : Reads {X = Option Refusal × Kind} (record_form (length t)) (record_view list t) s at (o, kind.Leaf) m
        → Reads {X = Fault × ℕ} (node_form (length t) (inner (length t) d)) node_view s at (at_ordinal i o, i + 1) m
    unfolding validate_nodes
    leaf_reads r = walks.a_leaf (length t) d r single_is
      where
        single_is : (x : Node) → Prim.Path (Option Refusal × Kind) (record_view list t x) (o, kind.Leaf)
            → Single {Y = Fault × ℕ} node_view (at_ordinal i o, i + 1) x
        single_is (single p l) e =
            let a = or_none (at_ordinal i (validate_leaf (names_of list) t l)) ∙ ap (λ (v : Option Refusal × Kind). at_ordinal i v.0) e in
            λ j. (a j, i + 1)
        single_is (holding p k ns) e = let z : ◌≡◌ {A = ℕ} 0 1 = cc (ap (λ (v : Option Refusal × Kind). v.1) e) in absurd (omega arith)

    -- a node that holds no others, w being its walk
    pub leaf_walk : {w : Walk} → at < length s → Reached s at i
        → (found_of w.found ≡ at_ordinal i o) × (w.next ≡ m) × (w.ordinal ≡ i + 1)
        → Reads {X = Option Refusal × Kind} (record_form (length t)) (record_view list t) s at (o, kind.Leaf) m → NodeWalk list t s d at i w
    leaf_walk l h e r = record {
      reads = rw (e.0, e.1, e.2) (leaf_reads r);
      on = let k = moves (length t) r l in (omega (arith, k, h, e.1, e.2), omega (arith, l, h, e.2));
    }

    module _ {c : ℕ} (r : Reads {X = Option Refusal × Kind} (record_form (length t)) (record_view list t) s at (o, kind.Container c) m) where
      -- no container may nest
      pub deep_walk : {w : Walk} → d ≡ 0 → Reached s at i → Lost s w.next × (w.ordinal ≡ i) → NodeWalk list t s d at i w
      deep_walk {w} e h l = record {
        reads = walks.too_deep (length t) d {U = ℕ} c (λ ns. 0) 1 e r holds l.0;
        on = (omega (arith, h, l), omega (arith, h, l.1));
      }
        where
          holds : (x : Node) → Prim.Path (Option Refusal × Kind) (record_view list t x) (o, kind.Container c)
              → Holds {U = ℕ} {Y = Fault × ℕ} c (λ ns. 0) 1 node_view (found_of w.found, w.ordinal) x
          holds (single p l) e = let z : ◌≡◌ {A = ℕ} 0 1 = cc (ap (λ (v : Option Refusal × Kind). v.1) e) in absurd (omega arith)
          holds (holding p k ns) e = (cc (ap (λ (v : Option Refusal × Kind). v.1) e), λ ms z. absurd (omega arith))

      box_reads : {f : Fault} {z k : ℕ} → 0 < d
          → Reads {X = Fault × ℕ} (forest (length t) (inner (length t) (d - 1)) c) (nodes_view list t (i + 1)) s m (f, z) k
          → Reads {X = Fault × ℕ} (node_form (length t) (inner (length t) d)) node_view s at (or_else (at_ordinal i o) f, z) k
      unfolding validate_nodes
      box_reads {f} {z} l q = walks.a_container (length t) d c (nodes_view list t (i + 1)) (f, z) l r holds q
        where
          more : (n : ℕ) → i + suc (n + 0) ≡ i + 1 + n
          more n = omega arith

          holds : (x : Node) → Prim.Path (Option Refusal × Kind) (record_view list t x) (o, kind.Container c)
              → Holds {U = Fault × ℕ} {Y = Fault × ℕ} c (nodes_view list t (i + 1)) (f, z) node_view (or_else (at_ordinal i o) f, z) x
          holds (single p l) e = let z : ◌≡◌ {A = ℕ} 0 1 = cc (ap (λ (v : Option Refusal × Kind). v.1) e) in absurd (omega arith)
          holds (holding p k ns) e = (
            cc (ap (λ (v : Option Refusal × Kind). v.1) e),
            λ ms h.
                let a : validate_nodes (names_of list) t (suc i) ms ≡ f = rw add-one at (ap (λ (v : Fault × ℕ). v.0) h) in
                let b : or_else (at_ordinal i (validate_container k)) (or_else (validate_nodes (names_of list) t (suc i) ms) none)
                ≡ or_else (at_ordinal i o) f = ap (λ (u : Fault). or_else (at_ordinal i (validate_container k)) u) (or_none _ ∙ a)
                ∙ ap (λ (v : Option Refusal × Kind). or_else (at_ordinal i v.0) f) e
                in
                let n = more (records ms) ∙ ap (λ (v : Fault × ℕ). v.1) h in
                λ j. (b j, n j),
          )

      -- a container, u being the walk over the nodes in it and w its own
      pub box_walk : {u w : Walk} → 0 < d → NodesWalk list t s (d - 1) m c (i + 1) u
          → found_of w.found ≡ or_else (at_ordinal i o) (found_of u.found) → w.next ≡ u.next → w.ordinal ≡ u.ordinal
          → NodeWalk list t s d at i w
      box_walk {u} l q g a b = record { reads = rw (g, a, b) (box_reads l q.reads); on = rw (a, b) q.on }

-- ---- nodes beside each other

-- the first of some nodes decides, or else those behind it
split : (list : ℕ) (t : List ℕ) (i : ℕ) (x : Node) (ns : Forest)
    → (validate_nodes (names_of list) t i (push x ns)
    ≡ or_else (validate_nodes (names_of list) t i (push x Nodes.none)) (validate_nodes (names_of list) t (i + records (push x Nodes.none)) ns))
    × (records (push x ns) ≡ records (push x Nodes.none) + records ns)
unfolding validate_nodes
split list t i (single p l) ns = (rw (or_none, add-one), omega arith)
split list t i (holding p b inside) ns =
    let e : i + suc (records inside + 0) ≡ suc i + records inside = omega arith in
    (rw (e, or_none, or_assoc), omega arith)

-- the first of ordinal i₀, so many from a place on
module _ (list : ℕ) (t s : List ℕ) (blk : Form Forest) (i₀ at count : ℕ) where
  -- k nodes are passed, with the first fault f; the one at a has the ordinal i: what is told of those from a on is told of all
  pub record Going (f : Fault) (a i k : ℕ) : Type 0 where
    pub tells : (m : ℕ) (g : Fault) (z : ℕ) → Reads {X = Fault × ℕ} (forest (length t) blk (count - k)) (nodes_view list t i) s a (g, z) m
        → Reads {X = Fault × ℕ} (forest (length t) blk count) (nodes_view list t i₀) s at (or_else f g, z) m

  pub going_start : Going none at i₀ 0
  going_start = record { tells = λ m g z r. let e : count - 0 ≡ count = omega arith in rw e at r }

  module _ {f : Fault} {a i k : ℕ} (go : Going f a i k) where
    pub going_next : {g h : Fault} {b j : ℕ} → k < count
        → Reads {X = Fault × ℕ} (node_form (length t) blk) (λ x. nodes_view list t i (push x Nodes.none)) s a (g, j) b
        → h ≡ or_else f g → Going h b j (k + 1)
    going_next {g} {h} {b} {j} l r e = record {
      tells = λ m u z q.
          let c : count - k ≡ suc (count - (k + 1)) = omega arith in
          let p = go.tells m (or_else g u) z
          (rw c (walks.forest-next (length t) blk (count - (k + 1)) r q (λ x rest v w. joined x rest u z v w)))
          in
          rw (e, or_assoc) p;
    }
      where
        joined : (x : Node) (rest : Forest) (u : Fault) (z : ℕ)
            → Prim.Path (Fault × ℕ) (nodes_view list t i (push x Nodes.none)) (g, j)
            → Prim.Path (Fault × ℕ) (nodes_view list t j rest) (u, z)
            → Prim.Path (Fault × ℕ) (nodes_view list t i (push x rest)) (or_else g u, z)
        joined x rest u z v w =
            let p = split list t i x rest in
            let n : i + records (push x Nodes.none) ≡ j = λ y. (v y).1 in
            let e₀ : validate_nodes (names_of list) t i (push x rest) ≡ or_else g u =
            p.0 ∙ (λ y. or_else (v y).0 (validate_nodes (names_of list) t (n y) rest)) ∙ (λ y. or_else g (w y).0) in
            let e₁ : j + records rest ≡ z = λ y. (w y).1 in
            let e₂ : i + records (push x rest) ≡ z = let q = p.1 in omega arith in
            λ y. (e₀ y, e₂ y)

    pub going_done : count ≤ k
        → Reads {X = Fault × ℕ} (forest (length t) blk count) (nodes_view list t i₀) s at (f, i) a
    unfolding validate_nodes
    going_done l =
        let c : count - k ≡ 0 = omega arith in
        let p = go.tells a none (i + 0) (rw c (walks.forest_none (length t) blk (nodes_view list t i) s a)) in
        rw (or_none, add-zero) at p
