-- Where the records of a sheet stand.
use Prim.Native.Nat.{ℕ, zero, suc, ◌+◌, ◌-◌, ◌≤◌, ◌<◌}
use mathlib.Core.List.{List, [], ◌∷◌, ◌++◌, map}
use mathlib.Core.Option.{Option, none, some, some-injective}
use mathlib.Core.Path.{◌≡◌, refl, sym, ◌∙◌, ap, subst⁻¹}
use native.Mathlib.Nat.{le_of_suc-le-suc}
use native.Mathlib.Omega.{arith}
use lib.ListN.{length, take, drop, get_elem?, length-append, length-drop}
use lib.Seq.{drop-drop, drop-append_seam, take_at}
use Rattle.codec.specs.Codec.{Form, big, opt, write_at}
use Rattle.codec.proofs.Laws.{Small, All, big_lawful}
use Rattle.ast.specs.Tree as tree
use Rattle.ast.specs.Tree.{Nodes, Container, leaf, box, single, holding, width}
use Rattle.sheet.specs.Sheet.{word, pattern_form, Node, Forest, kinds, split_node, decode}
use Rattle.sheet.specs.Records.{counted, record_of, records_of, nodes_of, all_records, kind_of, entries_of}
use Rattle.sheet.proofs.Laws.{node_l, inner_l, OkNodes, Fits, decoded}
use Rattle.sheet.proofs.Flat.{concat, leaf_same, leaf_ok, inside, records_are, sheet_flat}
use Rattle.sheet_decode.specs.Means.{Reads, got, bad, same}
use Rattle.sheet_records.specs.Means.{blank, count_form, record_form, record_view}
use Rattle.sheet_records.specs.declared.Kind.{Kind}
use Rattle.sheet_records.proofs.RecordLaws.{width-blank, count_l, record_l}

-- ---- each record of a tree within the limits is read back alone

abbrev pub Alone : ℕ → List ℕ → Type 0
Alone n r = (rest : List ℕ) → (y : Node) × ((record_form n).read (r ++ rest) ≡ some (y, rest))

-- a node's record is, and the node that is read has its kind and its entries
abbrev pub AloneAs : ℕ → Node → Type 0
AloneAs n x =
    (rest : List ℕ)
    → (y : Node) × ((record_form n).read (record_of n x ++ rest) ≡ some (y, rest)) × (kind_of y ≡ kind_of x) × (entries_of y ≡ entries_of x)

written : (n : ℕ) (x y : Node) → (record_l n).ok y → record_of n x ≡ (record_form n).write y → kind_of y ≡ kind_of x
    → entries_of y ≡ entries_of x → AloneAs n x
written n x y h e k l rest = (y, ap (λ (l : List ℕ). (record_form n).read (l ++ rest)) e ∙ (record_l n).law.back y h rest, k, l)

-- a container's record says no more of the nodes in it than their count
same_count : (n p : ℕ) (k : Container) (ns ms : Forest) → width ns ≡ width ms
    → record_of n (holding p k ns) ≡ (record_form n).write (holding p k ms)
same_count n p tree.sequence ns ms e = ap (λ (w : ℕ). 3 ∷ (big 2).write p ++ (big 2).write w) e
same_count n p tree.parallel ns ms e = ap (λ (w : ℕ). 4 ∷ (big 2).write p ++ (big 2).write w) e
same_count n p (tree.group m) ns ms e = ap (λ (w : ℕ). 5 ∷ (big 2).write p ++ (m ∷ (big 2).write w)) e
same_count n p (tree.stagger q d) ns ms e =
    ap (λ (w : ℕ). 6 ∷ (big 2).write p ++ ((opt pattern_form).write q ++ ((opt word).write d ++ (big 2).write w))) e

bare : (n d : ℕ) (ns : Forest) → (inner_l n d).ok ns → count_l.ok (blank (width ns))
bare n zero ns h = absurd h
bare n (suc d) ns h = (subst⁻¹ (Small 2) (width-blank (width ns)) h.0, ap blank (width-blank (width ns)))

box_ok : (n d p : ℕ) (k : Container) (ns : Forest) → (node_l n (inner_l n d)).ok (holding p k ns)
    → (record_l n).ok (holding p k (blank (width ns)))
box_ok n d p tree.sequence ns h = (h.0, bare n d ns h.1)
box_ok n d p tree.parallel ns h = (h.0, bare n d ns h.1)
box_ok n d p (tree.group m) ns h = (h.0, (h.1.0, bare n d ns h.1.1))
box_ok n d p (tree.stagger q e) ns h = (h.0, (h.1.0, (h.1.1.0, bare n d ns h.1.1.1)))

same_kind : (p : ℕ) (k : Container) (ns ms : Forest) → kind_of (holding p k ms) ≡ kind_of (holding p k ns)
same_kind p tree.sequence ns ms = refl
same_kind p tree.parallel ns ms = refl
same_kind p (tree.group m) ns ms = refl
same_kind p (tree.stagger q d) ns ms = refl

all_append : (P : Node → Type 0) (xs ys : List Node) → All P xs → All P ys → All P (xs ++ ys)
all_append P [] ys h g = g
all_append P (x ∷ xs) ys h g = (h.0, all_append P xs ys h.1 g)

pub all_alone : (n d : ℕ) (ns : Forest) → OkNodes n (inner_l n d) ns → All (AloneAs n) (nodes_of ns)
all_alone n d Nodes.none h = tt
all_alone n d (leaf p l rest) h = (
  written n (single p l) (single p l) (leaf_ok n (inner_l n d) count_l p l h.0) (sym (leaf_same 4 n count_form p l)) refl refl,
  all_alone n d rest h.1,
)
all_alone n zero (box p k ns rest) h = absurd (inside 4 n (inner_l n 0) p k ns h.0)
all_alone n (suc d) (box p k ns rest) h = (
  written n (holding p k ns) (holding p k (blank (width ns))) (box_ok n (suc d) p k ns h.0)
      (same_count n p k ns (blank (width ns)) (sym (width-blank (width ns)))) (same_kind p k ns (blank (width ns))) refl,
  all_append (AloneAs n) (nodes_of ns) (nodes_of rest) (all_alone n d ns (inside 4 n (inner_l n (suc d)) p k ns h.0).1)
      (all_alone n (suc d) rest h.1),
)

pub alone_records : (n : ℕ) (xs : List Node) → All (AloneAs n) xs → All (Alone n) (map (record_of n) xs)
alone_records n [] h = tt
alone_records n (x ∷ xs) h = ((λ rest. let a = h.0 rest in (a.0, a.1)), alone_records n xs h.1)

-- ---- a place behind some records

-- the record k of rs stands from start to end
pub record Stands (n : ℕ) (s : List ℕ) (rs : List (List ℕ)) (k start end : ℕ) : Type 0 where
  pub this : List ℕ
  pub those : List (List ℕ)
  pub listed : drop k rs ≡ this ∷ those
  pub here : drop start s ≡ this ++ concat those
  pub long : end ≡ start + length this
  pub within : end ≤ length s
  pub alone : All (Alone n) those

-- what is read where something stands that is read back
landed : {A X : Type 0} (c : Form A) {f : A → X} {s : List ℕ} {start m : ℕ} {v : X} (r rest : List ℕ)
    → start ≤ length s → drop start s ≡ r ++ rest → (b : (y : A) × (c.read (r ++ rest) ≡ some (y, rest)))
    → Reads c f s start v m → (m ≡ start + length r) × (m ≤ length s) × (f b.0 ≡ v)
landed {A} c {f} {s} {start} {m} {v} r rest h e b (got a g q i l) =
    let z : Prim.Path (Option (A × List ℕ)) (some (a, drop m s)) (some (b.0, rest)) = sym g ∙ ap c.read e ∙ b.1 in
    let p : ◌≡◌ {A = A × List ℕ} (a, drop m s) (b.0, rest) = some-injective (a, drop m s) (b.0, rest) z in
    let w : drop m s ≡ rest = ap (λ (p : A × List ℕ). p.1) p in
    let x : length (drop start s) ≡ length r + length rest = ap length e ∙ length-append r rest in
    let y : length (drop m s) ≡ length rest = ap length w in
    (omega (arith, length-drop start s, length-drop m s), l, sym (ap (λ (p : A × List ℕ). f p.0) p) ∙ q)
landed {A} c {s = s} {start = start} r rest h e b (bad o k) =
    let z : Prim.Path (Option (A × List ℕ)) none (some (b.0, rest)) = sym (k h) ∙ ap c.read e ∙ b.1 in
    let x : ◌≡◌ {A = ℕ} 0 1 = cc in
    absurd (omega arith)

pub drop-next : (rs : List (List ℕ)) (k : ℕ) {r : List ℕ} {qs : List (List ℕ)} → drop k rs ≡ r ∷ qs → drop (k + 1) rs ≡ qs
drop-next rs k {r} {qs} e = sym (drop-drop 1 k rs) ∙ ap (drop 1) e

module _ (n : ℕ) (s : List ℕ) where
  -- the head
  pub first : (ns : Forest) {c end : ℕ} → decode n s ≡ some ns → Reads (big 2) same s 0 c end → Stands n s (all_records n ns) 0 0 end
  unfolding all_records Fits
  first ns {end = end} e r =
      let d = decoded n s ns e in
      let w = (big 2).write (width ns) in
      let h : s ≡ w ++ concat (records_of n ns) = d.encodes ∙ sheet_flat n ns d.fits in
      let z = landed (big 2) w (concat (records_of n ns)) (omega arith) h
      (width ns, (big_lawful 2).back (width ns) d.fits.0 (concat (records_of n ns))) r
      in
      record {
        this = w;
        those = records_of n ns;
        listed = refl;
        here = h;
        long = z.0;
        within = z.1;
        alone = rw (records_are n ns) (alone_records n (nodes_of ns) (all_alone n 16 ns d.fits.1));
      }

  module _ (rs : List (List ℕ)) {k start end : ℕ} (t : Stands n s rs k start end) where
    behind : drop end s ≡ concat t.those
    behind =
        ap (λ (m : ℕ). drop m s) t.long ∙ sym (drop-drop (length t.this) start s) ∙ ap (drop (length t.this)) t.here
        ∙ drop-append_seam t.this (concat t.those)

    -- the next one
    pub next : {X : Type 0} {f : Node → X} {m : ℕ} {v : X} → end < length s → Reads (record_form n) f s end v m → Stands n s rs (k + 1) end m
    next {X} {f} {m} {v} h r = go t.those (drop-next rs k t.listed) behind t.alone
      where
        go : (qs : List (List ℕ)) → drop (k + 1) rs ≡ qs → drop end s ≡ concat qs → All (Alone n) qs → Stands n s rs (k + 1) end m
        go [] l b a = absurd (let z : length (drop end s) ≡ 0 = ap length b in omega (arith, length-drop end s))
        go (q ∷ qs) l b a =
            let z = landed (record_form n) q (concat qs) (omega arith) b (a.0 (concat qs)) r in
            record { this = q; those = qs; listed = l; here = b; long = z.0; within = z.1; alone = a.1 }

    -- there is none behind the last
    pub no_more : (o : ℕ) → length s ≤ end → k < o → none ≡ get_elem? rs o
    no_more o h l = go t.those (drop-next rs k t.listed) behind t.alone
      where
        past : (rs : List (List ℕ)) (o : ℕ) → length rs ≤ o → none ≡ get_elem? rs o
        past [] o h = refl
        past (r ∷ rs) zero h = absurd (no (length rs) h)
          where
            no : (m : ℕ) → suc m ≤ 0 → ⊥
            no m h = omega arith
        past (r ∷ rs) (suc o) h = past rs o (le_of_suc-le-suc h)

        go : (qs : List (List ℕ)) → drop (k + 1) rs ≡ qs → drop end s ≡ concat qs → All (Alone n) qs → none ≡ get_elem? rs o
        go [] d b a = let z : length (drop (k + 1) rs) ≡ 0 = ap length d in past rs o (omega (arith, length-drop (k + 1) rs))
        go ([] ∷ qs) d b a = let e = (a.0 []).1 in let z : ◌≡◌ {A = ℕ} 0 1 = cc in absurd (omega arith)
        go ((x ∷ q) ∷ qs) d b a =
            absurd (let z : length (drop end s) ≡ suc (length (q ++ concat qs)) = ap length b in omega (arith, length-drop end s))

    -- this one
    pub this_one : (o : ℕ) → o ≡ k → some (take (end - start) (drop start s)) ≡ get_elem? rs o
    this_one o e =
        let l : length t.this ≡ end - start = let z = t.long in omega arith in
        ap some (ap (take (end - start)) t.here ∙ take_at t.this (concat t.those) (end - start) l)
        ∙ sym (ap (get_elem? rs) e ∙ at_drop rs k ∙ ap (λ (l : List (List ℕ)). get_elem? l 0) t.listed)
      where
        at_drop : (rs : List (List ℕ)) (k : ℕ) → get_elem? rs k ≡ get_elem? (drop k rs) 0
        at_drop rs zero = refl
        at_drop [] (suc k) = refl
        at_drop (r ∷ rs) (suc k) = at_drop rs k

-- ---- the nodes behind a place

-- from `end` on stand the records of the nodes xs, and nothing else
pub record Behind (n : ℕ) (s : List ℕ) (xs : List Node) (end : ℕ) : Type 0 where
  pub here : drop end s ≡ concat (map (record_of n) xs)
  pub within : end ≤ length s
  pub alone : All (AloneAs n) xs

module _ {n : ℕ} {s : List ℕ} where
  -- behind the head
  pub behind_head : (ns : Forest) {c end : ℕ} → decode n s ≡ some ns → Reads (big 2) same s 0 c end → Behind n s (nodes_of ns) end
  unfolding Fits all_records
  behind_head ns e r =
      let t = first n s ns e r in
      record {
        here = behind n s (all_records n ns) t ∙ ap concat (those_are t);
        within = t.within;
        alone = all_alone n 16 ns (decoded n s ns e).fits.1;
      }
    where
      those_are : {end : ℕ} (t : Stands n s (all_records n ns) 0 0 end) → t.those ≡ map (record_of n) (nodes_of ns)
      those_are t = sym (drop-next (all_records n ns) 0 t.listed) ∙ records_are n ns

  -- the first of them, and the place behind it
  pub behind-next : (xs : List Node) {end m kind entries : ℕ} {w : Kind} → Behind n s xs end → end < length s
      → Reads (record_form n) record_view s end (w, kind, entries) m
      → (x : Node) × (ys : List Node) × (xs ≡ x ∷ ys) × (kind_of x ≡ kind) × (entries_of x ≡ entries) × Behind n s ys m
  behind-next [] {end} b h r = absurd (let z : length (drop end s) ≡ 0 = ap length b.here in omega (arith, length-drop end s))
  behind-next (x ∷ ys) {end} {m} b h r =
      let a = b.alone.0 (concat (map (record_of n) ys)) in
      let z = landed (record_form n) (record_of n x) (concat (map (record_of n) ys)) b.within b.here (a.0, a.1) r in (
        x,
        ys,
        refl,
        sym a.2 ∙ ap (λ (v : Kind × ℕ × ℕ). v.1) z.2,
        sym a.3 ∙ ap (λ (v : Kind × ℕ × ℕ). v.2) z.2,
        record {
          here = ap (λ (k : ℕ). drop k s) z.0 ∙ sym (drop-drop (length (record_of n x)) end s)
              ∙ ap (drop (length (record_of n x))) b.here
              ∙ drop-append_seam (record_of n x) (concat (map (record_of n) ys));
          within = z.1;
          alone = b.alone.1;
        },
      )

  -- there is none at the end
  pub behind-last : (xs : List Node) {end : ℕ} → Behind n s xs end → length s ≤ end → xs ≡ []
  behind-last [] b h = refl
  behind-last (x ∷ ys) {end} b h =
      let k = split_node n counted x in
      let z = some_byte k.0 (write_at (kinds n counted) k.0 k.1) (concat (map (record_of n) ys)) b.here in
      absurd (omega (arith, length-drop end s))
    where
      some_byte : (k : ℕ) (w r : List ℕ) {b : List ℕ} → b ≡ k ∷ w ++ r → 0 < length b
      some_byte k w r e = rw e (omega arith)
