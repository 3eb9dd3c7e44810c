-- Walks over nodes: a node, nodes beside each other, and the whole sheet.
use Prim.Native.Nat.{ℕ, zero, suc, ◌+◌, ◌-◌, ◌≤◌, ◌<◌}
use mathlib.Core.Bool.{Bool, false, cond}
use mathlib.Core.List.{List}
use mathlib.Core.Option.{Option, none, some}
use mathlib.Core.Logic.{⊎_elim}
use mathlib.Core.Path.{◌≡◌, refl, sym, ◌∙◌, ap, subst}
use native.Mathlib.Nat.{le_trans}
use native.Mathlib.Omega.{arith}
use borrow.Author.Tests.{eq-eqb, ne_eqb, le-ltb, lt-ltb}
use lib.Dec.{eqb}
use lib.ListN.{length, drop, drop_of_length-le, length-drop}
use Rattle.text.specs.Words.{is_some}
use Rattle.codec.specs.Codec.{Form, Reader, and_then, big}
use Rattle.ast.specs.Tree.{Nodes, single, holding, push, width}
use Rattle.sheet.specs.Sheet.{Node, Forest, node_form, forest, to_forest, of_forest, inner, sheet, whole, decode}
use Rattle.sheet_decode.specs.Means.{Lost, Reads, got, bad, same, passed}
use Rattle.sheet_decode.proofs.ReadLaws as laws
use Rattle.sheet_decode.proofs.ReadLaws.{◌&◌}
use Rattle.sheet_records.specs.Means.{record_form, record_view}
use Rattle.sheet_records.specs.declared.Kind.{Kind}
use Rattle.sheet_records.specs.declared.Kind.TheVariants.{Leaf, Container}
use Rattle.sheet_records.proofs.RecordLaws.{behind, node_read}

-- ---- places

-- bytes left do not become more
pub nearer : {A X : Type 0} {c : Form A} {f : A → X} {s : List ℕ} {a m : ℕ} {v : X} → Reads c f s a v m → length s - m ≤ length s - a
nearer (got b e q h l) = omega arith
nearer (bad o n) = omega arith

-- ---- a node: its record, then the nodes in it

-- how the nodes in a container are read where d more may nest
abbrev nodes_in : ℕ → ℕ → ℕ → Reader Forest
nodes_in n zero c bs = none
nodes_in n (suc d) c bs = (forest n (inner n d) c).read bs

no_nodes : {A : Type 0} (o : Option (ℕ × List ℕ)) → Prim.Path (Option (A × List ℕ)) none (and_then o (λ c bs. none))
no_nodes none = refl
no_nodes (some z) = refl

inner-read : (n d : ℕ) (bs : List ℕ) → (inner n d).read bs ≡ and_then ((big 2).read bs) (nodes_in n d)
inner-read n zero bs = no_nodes ((big 2).read bs)
inner-read n (suc d) bs = refl

-- a leaf that g shows as w
abbrev pub Single : {Y : Type 0} → (Node → Y) → Y → Node → Type 0
Single g w (single p l) = g (single p l) ≡ w
Single g w (holding p k ns) = ⊥

-- a container of c nodes that g shows as w, whichever nodes they are that h shows as u
abbrev pub Holds : {U Y : Type 0} → ℕ → (Forest → U) → U → (Node → Y) → Y → Node → Type 0
Holds c h u g w (single p l) = ⊥
Holds c h u g w (holding p k ns) = (width ns ≡ c) × ((ms : Forest) → h ms ≡ u → g (holding p k ms) ≡ w)

reading : (n d : ℕ) (bs : List ℕ) {o : Option (Node × List ℕ)}
    → (record_form n).read bs ≡ o
    → (node_form n (inner n d)).read bs ≡ and_then o (behind (nodes_in n d))
reading n d bs e =
    node_read (inner n d) (nodes_in n d) (inner-read n d) n bs ∙ ap (λ (o : Option (Node × List ℕ)). and_then o (behind (nodes_in n d))) e

module _ (n : ℕ) {X Y : Type 0} {f : Node → X} {g : Node → Y} {s : List ℕ} {at m : ℕ} {v : X} {w : Y} where
  pub a_leaf : (d : ℕ) → Reads (record_form n) f s at v m → ((x : Node) → f x ≡ v → Single g w x) → Reads (node_form n (inner n d)) g s at w m
  a_leaf d (got x e q h l) t = go x e (t x q)
    where
      go : (x : Node) → (record_form n).read (drop at s) ≡ some (x, drop m s) → Single g w x → Reads (node_form n (inner n d)) g s at w m
      go (single p y) e r = got (single p y) (reading n d (drop at s) e) r h l
      go (holding p k ns) e r = absurd r
  a_leaf d (bad o k) t = bad o (λ i. reading n d (drop at s) (k i))

  -- no container may nest
  pub too_deep : (d : ℕ) {k : ℕ} {U : Type 0} (c : ℕ) (h : Forest → U) (u : U) → d ≡ 0 → Reads (record_form n) f s at v m
      → ((x : Node) → f x ≡ v → Holds c h u g w x) → Lost s k → Reads (node_form n (inner n d)) g s at w k
  too_deep d {k} c h u z r t o = subst (λ (d : ℕ). Reads (node_form n (inner n d)) g s at w k) (sym z) (go r)
    where
      none_in : (x : Node) → Holds c h u g w x → behind (nodes_in n 0) x (drop m s) ≡ none
      none_in (single p y) r = absurd r
      none_in (holding p b ns) r = refl

      go : Reads (record_form n) f s at v m → Reads (node_form n (inner n 0)) g s at w k
      go (got x e q a l) = bad o (λ i. reading n 0 (drop at s) e ∙ none_in x (t x q))
      go (bad p j) = bad o (λ i. reading n 0 (drop at s) (j i))

  pub a_container : (d : ℕ) {k : ℕ} {U : Type 0} (c : ℕ) (h : Forest → U) (u : U) → 0 < d → Reads (record_form n) f s at v m
      → ((x : Node) → f x ≡ v → Holds c h u g w x) → Reads (forest n (inner n (d - 1)) c) h s m u k
      → Reads (node_form n (inner n d)) g s at w k
  a_container d {k} {U} c h u p r t q =
      let e : suc (d - 1) ≡ d = omega arith in subst (λ (d : ℕ). Reads (node_form n (inner n d)) g s at w k) e (go (d - 1) r q)
    where
      go : (d : ℕ) → Reads (record_form n) f s at v m → Reads (forest n (inner n d) c) h s m u k
          → Reads (node_form n (inner n (suc d))) g s at w k
      go d (got x e q a l) (got ms e' q' a' l') = held x e (t x q)
        where
          held : (x : Node)
              → (record_form n).read (drop at s) ≡ some (x, drop m s)
              → Holds c h u g w x → Reads (node_form n (inner n (suc d))) g s at w k
          held (single p y) e r = absurd r
          held (holding p b ns) e r = got (holding p b ms) (reading n (suc d) (drop at s) e ∙ rw (r.0, e')) (r.1 ms q') (le_trans a a') l'
      go d (got x e q a l) (bad o j) = bad o (λ i. reading n (suc d) (drop at s) e ∙ lost_in x (t x q))
        where
          lost_in : (x : Node) → Holds c h u g w x → behind (nodes_in n (suc d)) x (drop m s) ≡ none
          lost_in (single p y) r = absurd r
          lost_in (holding p b ns) r = rw (r.0, j l)
      go d (bad o j) (got ms e' q' a' l') = absurd (omega arith)
      go d (bad o j) (bad o' j') = bad o' (λ i. reading n (suc d) (drop at s) (j i))

-- what a record says of its node
pub is_leaf : {k e : ℕ} (x : Node) → record_view x ≡ (Leaf, k, e) → Single passed tt x
is_leaf (single p l) e = refl
is_leaf (holding p k ns) e = let z : ◌≡◌ {A = ℕ} 0 1 = cc (ap (λ (v : Kind × ℕ × ℕ). v.0) e) in absurd (omega arith)

pub is_container : {k e : ℕ} (c : ℕ) (x : Node) → record_view x ≡ (Container c, k, e) → Holds c passed tt passed tt x
is_container c (single p l) e = let z : ◌≡◌ {A = ℕ} 0 1 = cc (ap (λ (v : Kind × ℕ × ℕ). v.0) e) in absurd (omega arith)
is_container c (holding p k ns) e = (cc (ap (λ (v : Kind × ℕ × ℕ). v.0) e), λ ms h. refl)

pub node_end : {X : Type 0} (n : ℕ) (blk : Form Forest) {g : Node → X} (s : List ℕ) (at : ℕ) {k : ℕ} {w : X}
    → length s ≤ at → Lost s k → Reads (node_form n blk) g s at w k
node_end n blk s at h o = bad o (λ i. rw (drop_of_length-le s {i = at} h))

-- ---- nodes beside each other

pub forest_none : {X : Type 0} (n : ℕ) (blk : Form Forest) (view : Forest → X) (s : List ℕ) (at : ℕ)
    → Reads (forest n blk 0) view s at (view Nodes.none) at
forest_none n blk view s at = laws.through (λ u. Nodes.none) (λ ns. tt) (laws.nothing s at)

pub forest-next : {X Y Z : Type 0} (n : ℕ) (blk : Form Forest) (j : ℕ) {f : Node → X} {g : Forest → Y} {h : Forest → Z} {s : List ℕ}
    {at m k : ℕ} {v : X} {w : Y} {z : Z}
    → Reads (node_form n blk) f s at v m → Reads (forest n blk j) g s m w k
    → ((x : Node) (rest : Forest) → f x ≡ v → g rest ≡ w → h (push x rest) ≡ z)
    → Reads (forest n blk (suc j)) h s at z k
forest-next n blk j r q t = laws.through to_forest of_forest (laws.seen (r & q) (λ p e. t p.0 p.1 (λ i. (e i).0) (λ i. (e i).1)))

-- a walk over `count` nodes that has come to the place a behind k
module _ (n : ℕ) (blk : Form Forest) (s : List ℕ) (at count : ℕ) where
  abbrev pub Going : ℕ → ℕ → Type 0
  Going a k = (m : ℕ) → Reads (forest n blk (count - k)) passed s a tt m → Reads (forest n blk count) passed s at tt m

  pub going_start : Going at 0
  going_start m r = let e : count - 0 ≡ count = omega arith in rw e at r

  pub going_next : (a k b : ℕ) → k < count → Reads (node_form n blk) passed s a tt b → Going a k → Going b (k + 1)
  going_next a k b l r g m q =
      let e : count - k ≡ suc (count - (k + 1)) = omega arith in
      g m (rw e (forest-next n blk (count - (k + 1)) r q (λ x rest h i. refl)))

  pub going_done : (a k : ℕ) → count ≤ k → Going a k → Reads (forest n blk count) passed s at tt a
  going_done a k l g = let e : count - k ≡ 0 = omega arith in g a (rw e (forest_none n blk passed s a))

-- ---- the whole sheet

module _ (n : ℕ) (s : List ℕ) where
  pub too_long : 65535 < length s → false ≡ is_some (decode n s)
  unfolding decode
  too_long h = sym (ap (λ (b : Bool). is_some (cond {A = Option Forest} b none (whole ((sheet n).read s)))) (lt-ltb 65535 (length s) h))

  -- the head's count, and so many nodes to the end
  pub decides : {c b m : ℕ} → length s ≤ 65535 → Reads (big 2) same s 0 c b
      → Reads (forest n (inner n 16) c) passed s b tt m → eqb m (length s) ≡ is_some (decode n s)
  unfolding decode
  decides {m = m} short r q =
      sym (ap (λ (b : Bool). is_some (cond {A = Option Forest} b none (whole ((sheet n).read s)))) (le-ltb 65535 (length s) short)
      ∙ go (laws.counted width (forest n (inner n 16)) r q))
    where
      go : Reads (sheet n) passed s 0 tt m → is_some (whole ((sheet n).read s)) ≡ eqb m (length s)
      go (got ns e i h l) = ⊎_elim (λ x. ends e x) (λ x. goes_on e x) (laws.le_or_lt (length s) m)
        where
          ends : (sheet n).read s ≡ some (ns, drop m s) → length s ≤ m → is_some (whole ((sheet n).read s)) ≡ eqb m (length s)
          ends e x = let z : length (drop m s) ≡ 0 = length-drop m s ∙ omega arith in rw (e, z, eq-eqb m (length s) (omega arith))

          goes_on : (sheet n).read s ≡ some (ns, drop m s) → m < length s → is_some (whole ((sheet n).read s)) ≡ eqb m (length s)
          goes_on e x =
              let z : length (drop m s) ≡ length s - m = length-drop m s in
              let k : length (drop m s) ≡ 0 → ⊥ = λ u. omega arith in
              let j : m ≡ length s → ⊥ = λ u. omega arith in
              rw (e, ne_eqb (length (drop m s)) 0 k, ne_eqb m (length s) j)
      go (bad o k) = let j : m ≡ length s → ⊥ = λ u. omega arith in rw (k (omega arith), ne_eqb m (length s) j)
