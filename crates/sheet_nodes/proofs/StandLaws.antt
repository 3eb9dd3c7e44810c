-- A node that stands at a place: its record, then the nodes in it; and the first of some nodes.
use Prim.Native.Nat.{ℕ, zero, suc, ◌≤◌, ◌<◌}
use mathlib.Core.List.{List, [], append-nil}
use mathlib.Core.Logic.{⊎_elim}
use mathlib.Core.Option.{Option, none, some, some-injective}
use mathlib.Core.Path.{◌≡◌, refl, sym, ◌∙◌, ap}
use native.Mathlib.Omega.{arith}
use lib.ListN.{length, drop, drop_of_length-le}
use Rattle.codec.specs.Codec.{Form, Reader, and_then, step, never, big}
use Rattle.codec.proofs.Laws.{inverse}
use Rattle.ast.specs.Tree.{Leaf, Container, KeyframeTime, single, holding, push, width}
use Rattle.sheet.specs.Sheet.{Node, Forest, node_form, forest, to_forest, inner, sheet, encode, decode}
use Rattle.sheet.proofs.Laws.{sheet_lawful}
use Rattle.sheet.proofs.Laws as sheet-laws
use Rattle.sheet_decode.specs.Means.{Reads, got, bad, same}
use Rattle.sheet_records.specs.Means.{record_form, kind_view}
use Rattle.sheet_records.specs.declared.Kind.{Kind}
use Rattle.sheet_records.specs.declared.Kind.TheVariants as kind
use Rattle.sheet_records.proofs.RecordLaws.{behind, node_read, only_at}
use Rattle.sheet_nodes.specs.Means.{Stands, LeafKind}

pub none≢some : {A B : Type 0} {a : A} → Prim.Path (Option A) none (some a) → B
none≢some e = let z : ◌≡◌ {A = ℕ} 0 1 = cc in absurd (omega arith)

-- ---- a node is its record, then the nodes in it

abbrev insides : ℕ → ℕ → ℕ → Reader Forest
insides n zero c bs = none
insides n (suc d) c bs = (forest n (inner n d) c).read bs

no_nodes : {A : Type 0} (o : Option (ℕ × List ℕ)) → Prim.Path (Option (A × List ℕ)) none (and_then o (λ c bs. none))
no_nodes none = refl
no_nodes (some z) = refl

read_node : (n d : ℕ) (bs : List ℕ) → (node_form n (inner n d)).read bs ≡ and_then ((record_form n).read bs) (behind (insides n d))
read_node n zero bs = node_read never (insides n 0) (λ bs. no_nodes ((big 2).read bs)) n bs
read_node n (suc d) bs = node_read (inner n (suc d)) (insides n (suc d)) (λ bs. refl) n bs

-- what stands where a record was read that f shows as o: a leaf, or a container whose nodes stand behind
pub data Opened {X : Type 0} (f : Node → X) (n : ℕ) (s : List ℕ) (m : ℕ) (o : X) (k : Kind) (x : Node) (rest : List ℕ) : Type 0 where
  plain : (p : ℕ) (l : Leaf KeyframeTime) → x ≡ single p l → k ≡ kind.Leaf
      → f (single p l) ≡ o → rest ≡ drop m s → m ≤ length s
      → Opened f n s m o k x rest
  boxed : (p : ℕ) (b : Container) (ms ns : Forest) (c d : ℕ) → x ≡ holding p b ns → k ≡ kind.Container c → f (holding p b ms) ≡ o
      → (g : Stands (forest n (inner n d) c) s m ns) → g.rest ≡ rest → Opened f n s m o k x rest

module _ {X : Type 0} (f : Node → X) (n : ℕ) (s : List ℕ) {at m : ℕ} {o : X} {k : Kind} where
  pub opens : Reads {X = X × Kind} (record_form n) (λ x. (f x, kind_view x)) s at (o, k) m
      → (d : ℕ) (x : Node) (h : Stands (node_form n (inner n d)) s at x) → Opened f n s m o k x h.rest
  opens (bad p j) d x h = none≢some (sym (read_node n d (drop at s) ∙ rw (j h.within)) ∙ h.reads)
  opens (got y e q a l) d x h = go y q d (sym (read_node n d (drop at s) ∙ rw e) ∙ h.reads)
    where
      go : (y : Node)
          → Prim.Path (X × Kind) (f y, kind_view y) (o, k)
          → (d : ℕ)
          → behind (insides n d) y (drop m s) ≡ some (x, h.rest)
          → Opened f n s m o k x h.rest
      go (single j y) q d e =
          let p = some-injective (single j y, drop m s) (x, h.rest) e in
          plain j y (sym (ap (λ (z : Node × List ℕ). z.0) p)) (sym (λ i. (q i).1)) (λ i. (q i).0) (sym (ap (λ (z : Node × List ℕ). z.1) p))
          l
      go (holding j b ns) q zero e = none≢some e
      go (holding j b ns) q (suc d) e =
          let (z, e₁, e₂) = inverse ((forest n (inner n d) (width ns)).read (drop m s)) (λ ms r. some (holding j b ms, r)) (x, h.rest) e in
          let p = some-injective (holding j b z.0, z.1) (x, h.rest) e₂ in
          boxed j b ns z.0 (width ns) d (sym (ap (λ (z : Node × List ℕ). z.0) p)) (sym (λ i. (q i).1)) (λ i. (q i).0)
          (record { within = l; rest = z.1; reads = e₁ }) (ap (λ (z : Node × List ℕ). z.1) p)

-- none stands at the end
pub no_node : (t s : List ℕ) {at : ℕ} {B : Type 0} → length s ≤ at
    → (d : ℕ) (x : Node)
    → Stands (node_form (length t) (inner (length t) d)) s at x
    → B
no_node t s {at} e d x h = none≢some (rw (drop_of_length-le s {i = at} e) at h.reads)

-- the first of some nodes, and those behind it
pub record Front (n : ℕ) (blk : Form Forest) (j : ℕ) (s : List ℕ) (a : ℕ) (ns : Forest) (rest : List ℕ) : Type 0 where
  pub node : Node
  pub others : Forest
  pub these : push node others ≡ ns
  pub stands : Stands (node_form n blk) s a node
  pub reads : (forest n blk j).read stands.rest ≡ some (others, rest)

pub front : (n : ℕ) (blk : Form Forest) (j : ℕ) (s : List ℕ) (a : ℕ) (ns : Forest) (g : Stands (forest n blk (suc j)) s a ns)
    → Front n blk j s a ns g.rest
front n blk j s a ns g =
    let (p, e, q) = inverse (and_then ((node_form n blk).read (drop a s)) (λ x. step (forest n blk j).read (λ xs r. some ((x, xs), r))))
    (λ p r. some (to_forest p, r)) (ns, g.rest) g.reads
    in
    let (x, e₁, q₁) = inverse ((node_form n blk).read (drop a s)) (λ x. step (forest n blk j).read (λ xs r. some ((x, xs), r))) p e in
    let (y, e₂, q₂) = inverse ((forest n blk j).read x.1) (λ xs r. some ((x.0, xs), r)) p q₁ in
    made x y p e₁ e₂ (some-injective ((x.0, y.0), y.1) p q₂) (some-injective (to_forest p.0, p.1) (ns, g.rest) q)
  where
    made : (x : Node × List ℕ) (y : Forest × List ℕ) (p : (Node × Forest) × List ℕ)
        → (node_form n blk).read (drop a s) ≡ some x → (forest n blk j).read x.1 ≡ some y
        → Prim.Path ((Node × Forest) × List ℕ) ((x.0, y.0), y.1) p
        → Prim.Path (Forest × List ℕ) (to_forest p.0, p.1) (ns, g.rest)
        → Front n blk j s a ns g.rest
    made x y p e₁ e₂ v u = record {
      node = x.0;
      others = y.0;
      these = (λ i. to_forest (v i).0) ∙ (λ i. (u i).0);
      stands = record { within = g.within; rest = x.1; reads = e₁ };
      reads = e₂ ∙ ap (λ (r : List ℕ). some (y.0, r)) ((λ i. (v i).1) ∙ (λ i. (u i).1));
    }

-- the nodes of a sheet stand behind its head
pub head : (n : ℕ) (s : List ℕ) (ns : Forest) {c m : ℕ} → decode n s ≡ some ns
    → Reads (big 2) same s 0 c m → Stands (forest n (inner n 16) c) s m ns
unfolding encode
head n s ns e r = go r all
  where
    all : (sheet n).read s ≡ some (ns, [])
    all =
        let d = sheet-laws.decoded n s ns e in
        ap (λ (l : List ℕ). (sheet n).read l) (d.encodes ∙ sym (append-nil ((sheet n).write ns))) ∙ (sheet_lawful n).back ns d.fits []

    go : {c m : ℕ} → Reads (big 2) same s 0 c m → (sheet n).read s ≡ some (ns, []) → Stands (forest n (inner n 16) c) s m ns
    go (got a e q h l) k = record { within = l; rest = []; reads = rw (e, q) at k }
    go (bad o j) k = none≢some (rw (j (omega arith)) at k)

-- ---- kinds

-- what neither is before nor a container is an `at`
pub last-kind : (k : ℕ) → LeafKind k → (k ≡ 0 → ⊥) → (k ≡ 1 → ⊥) → (k ≡ 2 → ⊥)
    → (k ≡ 7 → ⊥) → (k ≡ 8 → ⊥) → (k ≡ 9 → ⊥) → (k ≡ 10 → ⊥)
    → (k ≡ 11 → ⊥) → (k ≡ 12 → ⊥) → (k ≡ 13 → ⊥) → k ≡ 14
last-kind k h n0 n1 n2 n7 n8 n9 n10 n11 n12 n13 =
    ⊎_elim (λ l. absurd (low k l n0 n1 n2))
    (λ l. only_at k (omega arith) h.1 (no k 5 l (omega arith)) (no k 6 l (omega arith)) n7 n8 n9 n10 n11 n12 n13) h.0
  where
    low : (k : ℕ) → k < 3 → (k ≡ 0 → ⊥) → (k ≡ 1 → ⊥) → (k ≡ 2 → ⊥) → ⊥
    low k h n0 n1 n2 = omega arith

    no : (k j : ℕ) → 7 ≤ k → j < 7 → k ≡ j → ⊥
    no k j h l e = omega arith
