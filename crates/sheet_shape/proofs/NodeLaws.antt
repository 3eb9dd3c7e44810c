-- Records and nodes whose frames' numbers have w bytes each: what is read, and how many numbers it has.
use Rattle.std.proofs.Common.{◌≡◌, ℕ, zero, suc, ◌+◌, ◌-◌, ◌^◌, ◌<◌, ◌≤◌, List, [], ◌∷◌, ◌++◌, length, get_or, drop, sym, refl, ap, ◌∙◌, subst, le_trans, arith, length-append, length-drop, drop_of_length-le}
use mathlib.Core.Option.{Option, none, some}
use Rattle.codec.specs.Codec.{Form, Reader, and_then, below, below_in, ◌▹◌, big, write_at}
use Rattle.codec.proofs.Laws.{below_lawful}
use Rattle.ast.specs.Tree as tree
use Rattle.ast.specs.Tree.{KeyframeSpec, KeyframeTime, Nodes, single, holding, push, width}
use Rattle.sheet.specs.Sheet.{start_form, Node, Forest, node_form, split_node, to_forest, of_forest}
use Rattle.sheet_decode.specs.Means.{Lost, Reads, got, bad, Number, KindAndStart, same}
use Rattle.sheet_decode.proofs.ReadLaws as laws
use Rattle.sheet_decode.proofs.ReadLaws.{◌&◌, chosen}
use Rattle.sheet_records.specs.Means.{blank, count_form, record_form, record_view}
use Rattle.sheet_records.specs.declared.Kind.{Kind}
use Rattle.sheet_records.specs.declared.Kind.TheVariants as kind
use Rattle.sheet_records.proofs.RecordLaws.{behind, node_read, count_l, record_l}
use Rattle.sheet.specs.Sheet.{keyframes_form_of, kinds_of, split_node_of, node_form_of, forest_of, inner_of}
use Rattle.planed.specs.Planes.{leaf_numbers, numbers_of}
use Rattle.sheet.proofs.Laws.{node_l_of}
use Rattle.sheet_shape.specs.Means.{wrapped, frame_tally, node_numbers, node_tally, tally, record_form_of, node_view}
use Rattle.sheet_shape.proofs.FrameLaws.{wrap_none, wrap_sum, wrap_assoc, wrap_small}

none≢some : {A B : Type 0} {a : A} → Prim.Path (Option A) none (some a) → B
none≢some e = let z : ◌≡◌ {A = ℕ} 0 1 = cc in absurd (omega arith)

-- ---- a record that is no track's is read as in a sheet

same_read : (w n : ℕ) (blk : Form Forest) (bs : List ℕ) → (get_or bs 0 0 ≡ 2 → ⊥) → (node_form_of w n blk).read bs ≡ (node_form n blk).read bs
same_read w n blk [] h = refl
same_read w n blk (zero ∷ bs) h = refl
same_read w n blk (suc zero ∷ bs) h = refl
same_read w n blk (suc (suc zero) ∷ bs) h = absurd (h refl)
same_read w n blk (suc (suc (suc i)) ∷ bs) h = refl

not-two : {s : List ℕ} {at b m : ℕ} → Number (below 15) 15 s at b m → (b ≡ 2 → ⊥) → at ≤ length s → get_or (drop at s) 0 0 ≡ 2 → ⊥
not-two {s} {at} {b} {m} r h l e = go r.reads
  where
    two : (bs : List ℕ) → get_or bs 0 0 ≡ 2 → below_in 15 bs ≡ none → ⊥
    two [] e q = let z : ◌≡◌ {A = ℕ} 0 2 = e in omega arith
    two (x ∷ bs) e q = none≢some (sym (rw e at q))

    go : Reads (below 15) same s at b m → ⊥
    go (got a x q i k) = h (sym q ∙ sym (ap (λ (bs : List ℕ). get_or bs 0 0) ((below_lawful 15).forth (drop at s) (a, drop m s) x).0) ∙ e)
    go (bad o x) = two (drop at s) e (x l)

numbers_blank : (c : ℕ) → numbers_of (blank c) ≡ []
unfolding numbers_of
numbers_blank zero = refl
numbers_blank (suc c) = numbers_blank c

-- it has no numbers
plain_numbers : (n : ℕ) (x : Node) → (record_l n).ok x → ((split_node n count_form x).0 ≡ 2 → ⊥) → node_numbers x ≡ []
plain_numbers n (single p (tree.tween x)) o h = refl
plain_numbers n (single p (tree.spring x)) o h = refl
plain_numbers n (single p (tree.keyframes x)) o h = absurd (h refl)
plain_numbers n (single p (tree.path x)) o h = refl
plain_numbers n (single p (tree.morph x)) o h = refl
plain_numbers n (single p (tree.draw x)) o h = refl
plain_numbers n (single p (tree.color x)) o h = refl
plain_numbers n (single p (tree.waveform x)) o h = refl
plain_numbers n (single p (tree.preset x)) o h = refl
plain_numbers n (single p (tree.label x)) o h = refl
plain_numbers n (single p (tree.at x)) o h = refl
plain_numbers n (holding p tree.sequence ns) o h = ap numbers_of (sym o.1.1) ∙ numbers_blank (width ns)
plain_numbers n (holding p tree.parallel ns) o h = ap numbers_of (sym o.1.1) ∙ numbers_blank (width ns)
plain_numbers n (holding p (tree.group m) ns) o h = ap numbers_of (sym o.1.1.1) ∙ numbers_blank (width ns)
plain_numbers n (holding p (tree.stagger q d) ns) o h = ap numbers_of (sym o.1.1.1.1) ∙ numbers_blank (width ns)

pub plain_record : (w n : ℕ) {s : List ℕ} {at b j m k e : ℕ} {v : Kind} → Number (below 15) 15 s at b j → (b ≡ 2 → ⊥)
    → Reads (record_form n) record_view s at (v, k, e) m → Reads (record_form_of w n) node_view s at (v, 0) m
unfolding node_tally
plain_record w n {s} {at} {b} {j} {m} {k} {e} {v} r h (got x g q i l) =
    let f = (record_l n).law.forth (drop at s) (x, drop m s) g in
    let z = not-two r h (omega arith) in
    let y : node_numbers x ≡ [] = plain_numbers n x f.1 (λ t. z (ap (λ (bs : List ℕ). get_or bs 0 0) f.0 ∙ t)) in
    got x (same_read w n count_form (drop at s) z ∙ g) (λ t. ((q t).0, wrapped (length (y t)))) i l
plain_record w n {s} {at} r h (bad o g) = bad o (λ i. same_read w n count_form (drop at s) (not-two r h i) ∙ g i)

-- ---- a track's record

pub track_record : (w n : ℕ) {s : List ℕ} {at c start m k t : ℕ} (b : KindAndStart n s at c start m) → c ≡ 2
    → Reads (keyframes_form_of w n) (λ x. frame_tally x.frames) s m t k → Reads (record_form_of w n) node_view s at (kind.Leaf, t) k
unfolding node_tally frame_tally
track_record w n b e r =
    chosen (kinds_of w n count_form) (split_node_of w n count_form) 2 b.kind_at.reads e (b.start_at & r) (λ x h i. (kind.Leaf, (h i).1))

-- ---- a node is its record, then the nodes in it

module _ (inside : Form Forest) (K : ℕ → Reader Forest) (splits : (bs : List ℕ) → inside.read bs ≡ and_then ((big 2).read bs) K) where
  pub node_read_of : (w n : ℕ) (bs : List ℕ) → (node_form_of w n inside).read bs ≡ and_then ((record_form_of w n).read bs) (behind K)
  node_read_of w n [] = refl
  node_read_of w n (zero ∷ bs) = node_read inside K splits n (0 ∷ bs)
  node_read_of w n (suc zero ∷ bs) = node_read inside K splits n (1 ∷ bs)
  node_read_of w n (suc (suc zero) ∷ bs) = go ((start_form n ▹ keyframes_form_of w n).read bs)
    where
      go : (o : Option ((ℕ × KeyframeSpec KeyframeTime) × List ℕ))
          → and_then o (λ x r. some (single x.0 (tree.keyframes x.1), r))
          ≡ and_then (and_then o (λ x r. some (single x.0 (tree.keyframes x.1), r))) (behind K)
      go none = refl
      go (some z) = refl
  node_read_of w n (suc (suc (suc i)) ∷ bs) = node_read inside K splits n (suc (suc (suc i)) ∷ bs)

abbrev nodes_in : ℕ → ℕ → ℕ → ℕ → Reader Forest
nodes_in w n zero c bs = none
nodes_in w n (suc d) c bs = (forest_of w n (inner_of w n d) c).read bs

no_nodes : {A : Type 0} (o : Option (ℕ × List ℕ)) → Prim.Path (Option (A × List ℕ)) none (and_then o (λ c bs. none))
no_nodes none = refl
no_nodes (some z) = refl

inner-read : (w n d : ℕ) (bs : List ℕ) → (inner_of w n d).read bs ≡ and_then ((big 2).read bs) (nodes_in w n d)
inner-read w n zero bs = no_nodes ((big 2).read bs)
inner-read w n (suc d) bs = refl

reading : (w n d : ℕ) (bs : List ℕ) {o : Option (Node × List ℕ)}
    → (record_form_of w n).read bs ≡ o
    → (node_form_of w n (inner_of w n d)).read bs ≡ and_then o (behind (nodes_in w n d))
reading w n d bs e =
    node_read_of (inner_of w n d) (nodes_in w n d) (inner-read w n d) w n bs
    ∙ ap (λ (o : Option (Node × List ℕ)). and_then o (behind (nodes_in w n d))) e

module _ (w n : ℕ) {s : List ℕ} {at m t : ℕ} where
  pub a_leaf : (d : ℕ) → Reads (record_form_of w n) node_view s at (kind.Leaf, t) m → Reads (node_form_of w n (inner_of w n d)) node_tally s at t m
  a_leaf d (got x e q h l) = go x e q
    where
      go : (x : Node) → (record_form_of w n).read (drop at s) ≡ some (x, drop m s) → node_view x ≡ (kind.Leaf, t)
          → Reads (node_form_of w n (inner_of w n d)) node_tally s at t m
      go (single p y) e q = got (single p y) (reading w n d (drop at s) e) (λ i. (q i).1) h l
      go (holding p k ns) e q = let z : ◌≡◌ {A = ℕ} 0 1 = cc (ap (λ (v : Kind × ℕ). v.0) q) in absurd (omega arith)
  a_leaf d (bad o k) = bad o (λ i. reading w n d (drop at s) (k i))

  -- no container may nest
  pub too_deep : (d : ℕ) {k u : ℕ} (c : ℕ) → d ≡ 0 → Reads (record_form_of w n) node_view s at (kind.Container c, t) m → Lost s k
      → Reads (node_form_of w n (inner_of w n d)) node_tally s at u k
  too_deep d {k} {u} c z r o = subst (λ (d : ℕ). Reads (node_form_of w n (inner_of w n d)) node_tally s at u k) (sym z) (go r)
    where
      none_in : (x : Node) → node_view x ≡ (kind.Container c, t) → behind (nodes_in w n 0) x (drop m s) ≡ none
      none_in (single p y) q = let z : ◌≡◌ {A = ℕ} 0 1 = cc (ap (λ (v : Kind × ℕ). v.0) q) in absurd (omega arith)
      none_in (holding p b ns) q = refl

      go : Reads (record_form_of w n) node_view s at (kind.Container c, t) m → Reads (node_form_of w n (inner_of w n 0)) node_tally s at u k
      go (got x e q a l) = bad o (λ i. reading w n 0 (drop at s) e ∙ none_in x q)
      go (bad p j) = bad o (λ i. reading w n 0 (drop at s) (j i))

  pub a_container : (d : ℕ) {k u : ℕ} (c : ℕ) → 0 < d → Reads (record_form_of w n) node_view s at (kind.Container c, t) m
      → Reads (forest_of w n (inner_of w n (d - 1)) c) tally s m u k
      → Reads (node_form_of w n (inner_of w n d)) node_tally s at u k
  unfolding node_tally tally
  a_container d {k} {u} c p r q =
      let e : suc (d - 1) ≡ d = omega arith in
      subst (λ (d : ℕ). Reads (node_form_of w n (inner_of w n d)) node_tally s at u k) e (go (d - 1) r q)
    where
      Holds : Node → Type 0
      Holds (single p y) = ⊥
      Holds (holding p b ns) = width ns ≡ c

      holds : (x : Node) → node_view x ≡ (kind.Container c, t) → Holds x
      holds (single p y) q = let z : ◌≡◌ {A = ℕ} 0 1 = cc (ap (λ (v : Kind × ℕ). v.0) q) in absurd (omega arith)
      holds (holding p b ns) q = cc (ap (λ (v : Kind × ℕ). v.0) q)

      go : (d : ℕ) → Reads (record_form_of w n) node_view s at (kind.Container c, t) m → Reads (forest_of w n (inner_of w n d) c) tally s m u k
          → Reads (node_form_of w n (inner_of w n (suc d))) node_tally s at u k
      go d (got x e q a l) (got ms e' q' a' l') = held x e (holds x q)
        where
          held : (x : Node) → (record_form_of w n).read (drop at s) ≡ some (x, drop m s) → Holds x
              → Reads (node_form_of w n (inner_of w n (suc d))) node_tally s at u k
          held (single p y) e r = absurd r
          held (holding p b ns) e r = got (holding p b ms) (reading w n (suc d) (drop at s) e ∙ rw (r, e')) q' (le_trans a a') l'
      go d (got x e q a l) (bad o j) = bad o (λ i. reading w n (suc d) (drop at s) e ∙ lost_in x (holds x q))
        where
          lost_in : (x : Node) → Holds x → behind (nodes_in w n (suc d)) x (drop m s) ≡ none
          lost_in (single p y) r = absurd r
          lost_in (holding p b ns) r = rw (r, j l)
      go d (bad o j) (got ms e' q' a' l') = absurd (omega arith)
      go d (bad o j) (bad o' j') = bad o' (λ i. reading w n (suc d) (drop at s) (j i))

pub node_end : {X : Type 0} (w n : ℕ) (blk : Form Forest) {g : Node → X} (s : List ℕ) (at : ℕ) {k : ℕ} {v : X}
    → length s ≤ at → Lost s k → Reads (node_form_of w n blk) g s at v k
node_end w n blk s at h o = bad o (λ i. rw (drop_of_length-le s {i = at} h))

-- ---- nodes beside each other

forest_none : (w n : ℕ) (blk : Form Forest) (s : List ℕ) (at : ℕ) → Reads (forest_of w n blk 0) tally s at (tally Nodes.none) at
forest_none w n blk s at = laws.through (λ u. Nodes.none) (λ ns. tt) (laws.nothing s at)

tally-push : (x : Node) (rest : Forest) (a b : ℕ) → node_tally x ≡ a → tally rest ≡ b → tally (push x rest) ≡ wrapped (a + b)
unfolding node_tally tally numbers_of
tally-push (single p l) rest a b e g =
    ap wrapped (length-append (leaf_numbers l) (numbers_of rest)) ∙ wrap_sum a b (length (leaf_numbers l)) (length (numbers_of rest)) e g
tally-push (holding p k ns) rest a b e g =
    ap wrapped (length-append (numbers_of ns) (numbers_of rest)) ∙ wrap_sum a b (length (numbers_of ns)) (length (numbers_of rest)) e g

module _ (w n : ℕ) (blk : Form Forest) (s : List ℕ) (at count : ℕ) where
  -- behind k of them, of t numbers, at the place a
  abbrev pub Going : ℕ → ℕ → ℕ → Type 0
  Going a k t =
      (m v : ℕ) → Reads (forest_of w n blk (count - k)) tally s a v m → Reads (forest_of w n blk count) tally s at (wrapped (t + v)) m

  pub going_start : Going at 0 0
  unfolding tally
  going_start m v r = let e : count - 0 ≡ count = omega arith in rw e at (laws.seen r (λ ns h. wrap_none (length (numbers_of ns)) v h))

  pub going_next : (a k b t u c : ℕ) → k < count → Reads (node_form_of w n blk) node_tally s a c b → u ≡ wrapped (t + c)
      → Going a k t → Going b (k + 1) u
  going_next a k b t u c l r h g m v q =
      let e : count - k ≡ suc (count - (k + 1)) = omega arith in
      laws.seen (g m (wrapped (c + v)) (rw e
      (laws.through to_forest of_forest (laws.seen (r & q) (λ p z. tally-push p.0 p.1 c v (λ i. (z i).0) (λ i. (z i).1))))))
      (λ ns z. z ∙ wrap_assoc t c v u h)

  pub going_done : (a k t : ℕ) → count ≤ k → t < 2 ^ 64 → Going a k t → Reads (forest_of w n blk count) tally s at t a
  unfolding tally numbers_of
  going_done a k t l h g =
      let e : count - k ≡ 0 = omega arith in
      laws.seen (g a 0 (rw e (forest_none w n blk s a))) (λ ns z. z ∙ wrap_small t h)

-- a record has at least its kind
pub moves : {X : Type 0} (w n : ℕ) {f : Node → X} {s : List ℕ} {at m : ℕ} {v : X} → Reads (record_form_of w n) f s at v m
    → at < length s → at < m
moves w n {s = s} {at = at} {m = m} (got x e q h l) i =
    let k = split_node_of w n count_form x in
    let z : length (drop m s) < length (drop at s) = longer k.0 (write_at (kinds_of w n count_form) k.0 k.1) (drop m s)
    ((node_l_of w n count_l).law.forth (drop at s) (x, drop m s) e).0
    in
    omega (arith, length-drop at s, length-drop m s)
  where
    longer : (k : ℕ) (w r : List ℕ) {b : List ℕ} → b ≡ k ∷ w ++ r → length r < length b
    longer k w r e = rw e (omega (arith, length-append w r))
moves w n (bad o k) i = omega arith

-- bytes left do not become more
pub nearer : {A X : Type 0} {c : Form A} {f : A → X} {s : List ℕ} {a m : ℕ} {v : X} → Reads c f s a v m → length s - m ≤ length s - a
nearer (got b e q h l) = omega arith
nearer (bad o n) = omega arith
