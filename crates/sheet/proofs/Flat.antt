-- A sheet is its records one after the other, whatever the width of its frames' numbers.
use Prim.Native.Nat.{ℕ, zero, suc}
use mathlib.Core.List.{List, [], ◌∷◌, ◌++◌, append_assoc, map, map-append}
use mathlib.Core.Path.{◌≡◌, refl, sym, ◌∙◌, ap}
use Rattle.codec.specs.Codec.{Form, big, opt}
use Rattle.codec.proofs.Laws.{Law}
use Rattle.ast.specs.Tree as tree
use Rattle.ast.specs.Tree.{Nodes, KeyframeTime, Leaf, Container, leaf, box, single, holding, width}
use Rattle.sheet.specs.Sheet.{word, pattern_form, Forest, node_form_of, forest_of, inner_of, encode}
use Rattle.sheet.specs.Records.{record_as, record_of, records_of, nodes_of, all_records}
use Rattle.sheet.proofs.Laws.{node_l, node_l_of, inner_l_of, OkNodesOf, Fits}

abbrev pub concat : List (List ℕ) → List ℕ
concat [] = []
concat (r ∷ rs) = r ++ concat rs

pub concat_append : (rs qs : List (List ℕ)) → concat (rs ++ qs) ≡ concat rs ++ concat qs
concat_append [] qs = refl
concat_append (r ∷ rs) qs = ap (λ (l : List ℕ). r ++ l) (concat_append rs qs) ∙ sym (append_assoc r (concat rs) (concat qs))

-- a leaf is its record
pub leaf_same : (w n : ℕ) (blk : Form Forest) (p : ℕ) (l : Leaf KeyframeTime)
    → (node_form_of w n blk).write (single p l) ≡ record_as w n (single p l)
leaf_same w n blk p (tree.tween x) = refl
leaf_same w n blk p (tree.spring x) = refl
leaf_same w n blk p (tree.keyframes x) = refl
leaf_same w n blk p (tree.path x) = refl
leaf_same w n blk p (tree.morph x) = refl
leaf_same w n blk p (tree.draw x) = refl
leaf_same w n blk p (tree.color x) = refl
leaf_same w n blk p (tree.waveform x) = refl
leaf_same w n blk p (tree.preset x) = refl
leaf_same w n blk p (tree.label x) = refl
leaf_same w n blk p (tree.at x) = refl

-- a container is its record, then what stands behind the count of the nodes in it
pub box_same : (w n : ℕ) (blk : Form Forest) (p : ℕ) (k : Container) (ns : Forest) (x : List ℕ)
    → blk.write ns ≡ (big 2).write (width ns) ++ x
    → (node_form_of w n blk).write (holding p k ns) ≡ record_as w n (holding p k ns) ++ x
box_same w n blk p tree.sequence ns x e = ap (λ (l : List ℕ). 3 ∷ (big 2).write p ++ l) e
box_same w n blk p tree.parallel ns x e = ap (λ (l : List ℕ). 4 ∷ (big 2).write p ++ l) e
box_same w n blk p (tree.group m) ns x e = ap (λ (l : List ℕ). 5 ∷ (big 2).write p ++ m ∷ l) e
box_same w n blk p (tree.stagger q d) ns x e =
    let P = (opt pattern_form).write q in
    let D = (opt word).write d in
    let C = (big 2).write (width ns) in
    ap (λ (l : List ℕ). 6 ∷ (big 2).write p ++ P ++ (D ++ l)) e
    ∙ ap (λ (l : List ℕ). 6 ∷ (big 2).write p ++ P ++ l) (sym (append_assoc D C x))
    ∙ ap (λ (l : List ℕ). 6 ∷ (big 2).write p ++ l) (sym (append_assoc P (D ++ C) x))

-- the nodes in a container are within the limits where it is
pub inside : (w n : ℕ) {c : Form Forest} (a : Law c) (p : ℕ) (k : Container) (ns : Forest) → (node_l_of w n a).ok (holding p k ns) → a.ok ns
inside w n a p tree.sequence ns h = h.1
inside w n a p tree.parallel ns h = h.1
inside w n a p (tree.group m) ns h = h.1.1
inside w n a p (tree.stagger q e) ns h = h.1.1.1

-- the limits are asked for at any width v: they bound how deep containers nest
pub flat : (v w n d : ℕ) (ns : Forest) → OkNodesOf v n (inner_l_of v n d) ns
    → (forest_of w n (inner_of w n d) (width ns)).write ns ≡ concat (map (record_as w n) (nodes_of ns))
flat v w n d Nodes.none h = refl
flat v w n d (leaf p l rest) h = λ i. leaf_same w n (inner_of w n d) p l i ++ flat v w n d rest h.1 i
flat v w n zero (box p k ns rest) h = absurd (inside v n (inner_l_of v n 0) p k ns h.0)
flat v w n (suc d) (box p k ns rest) h =
    let e = box_same w n (inner_of w n (suc d)) p k ns (concat (map (record_as w n) (nodes_of ns)))
    (ap (λ (l : List ℕ). (big 2).write (width ns) ++ l) (flat v w n d ns (inside v n (inner_l_of v n (suc d)) p k ns h.0).1))
    in
    (λ i. e i ++ flat v w n (suc d) rest h.1 i)
    ∙ append_assoc (record_as w n (holding p k ns)) (concat (map (record_as w n) (nodes_of ns))) (concat (map (record_as w n) (nodes_of rest)))
    ∙ ap (λ (l : List ℕ). record_as w n (holding p k ns) ++ l)
    (sym (concat_append (map (record_as w n) (nodes_of ns)) (map (record_as w n) (nodes_of rest)))
    ∙ ap concat (sym (map-append (record_as w n) (nodes_of ns) (nodes_of rest))))

-- the records of a tree are those of its nodes
pub records_are : (n : ℕ) (ns : Forest) → records_of n ns ≡ map (record_of n) (nodes_of ns)
records_are n Nodes.none = refl
records_are n (leaf p l rest) = ap (λ (rs : List (List ℕ)). record_of n (single p l) ∷ rs) (records_are n rest)
records_are n (box p k ns rest) =
    (λ i. record_of n (holding p k ns) ∷ records_are n ns i ++ records_are n rest i)
    ∙ ap (λ (rs : List (List ℕ)). record_of n (holding p k ns) ∷ rs) (sym (map-append (record_of n) (nodes_of ns) (nodes_of rest)))

pub sheet_flat : (n : ℕ) (ns : Forest) → Fits n ns → encode n ns ≡ concat (all_records n ns)
unfolding Fits encode all_records
sheet_flat n ns h = ap (λ (l : List ℕ). (big 2).write (width ns) ++ l) (flat 4 4 n 16 ns h.1 ∙ ap concat (sym (records_are n ns)))

-- whether a leaf is within the limits does not depend on how the nodes in a container are written
pub leaf_ok : (n : ℕ) {c d : Form Forest} (a : Law c) (b : Law d) (p : ℕ) (l : Leaf KeyframeTime)
    → (node_l n a).ok (single p l) → (node_l n b).ok (single p l)
leaf_ok n a b p (tree.tween x) h = h
leaf_ok n a b p (tree.spring x) h = h
leaf_ok n a b p (tree.keyframes x) h = h
leaf_ok n a b p (tree.path x) h = h
leaf_ok n a b p (tree.morph x) h = h
leaf_ok n a b p (tree.draw x) h = h
leaf_ok n a b p (tree.color x) h = h
leaf_ok n a b p (tree.waveform x) h = h
leaf_ok n a b p (tree.preset x) h = h
leaf_ok n a b p (tree.label x) h = h
leaf_ok n a b p (tree.at x) h = h
