-- Laws of the converter, 02 (h), for every text and every lent sheet.
use Prim.Native.Nat.{ℕ, zero, suc, ◌+◌, ◌<◌}
use mathlib.Core.Bool.{Bool, true, false, cond}
use mathlib.Core.List.{List, [], ◌∷◌, ◌++◌, map, map-append}
use mathlib.Core.Option.{some}
use mathlib.Core.Path.{◌≡◌, refl, sym, ◌∙◌, ap, subst⁻¹}
use native.Mathlib.Omega.{arith}
use lib.Dec.{eqb}
use lib.ListN.{length, set, length-set, length-append}
use Rattle.error.specs.declared.Refusal.{Refusal}
use Rattle.error.specs.declared.CheckAnswer.{CheckAnswer}
use Rattle.error.specs.declared.CheckAnswer.TheVariants.{Accepted, Refused}
use Rattle.codec.specs.Codec.{big, opt, each_out}
use Rattle.codec.proofs.Laws.{Small}
use Rattle.ast.specs.Tree as tree
use Rattle.ast.specs.Tree.{Nodes, KeyframeTime, Leaf, Container, leaf, box, single, holding, width}
use Rattle.sheet.specs.Sheet.{word, pattern_form, Forest, encode, decode}
use Rattle.sheet.specs.Records.{record_of, records_of, all_records}
use Rattle.sheet.specs.Opening.{Opened, opened, shut, decoded, opening}
use Rattle.sheet.proofs.Laws as sheet-laws
use Rattle.sheet.proofs.Laws.{node_l, inner_l, OkNodes, Fits, decodes}
use Rattle.sheet.proofs.Flat.{concat, inside, sheet_flat}
use Rattle.ast.specs.Tree.{noise}
use Rattle.law_opened.proofs.OpenedLaws.{opened_text, holds_tree}
use Rattle.converting.specs.Convert.{waveform_kind, triangle, holds_noise}
use Rattle.converting.specs.Convert.{wave_at, converted_record, converted_sheet, convert_opened, converting}
use Rattle.converting.specs.Triangled.{triangled_kind, triangled_leaf, triangled}

-- ---- as many bytes

pub length_converted : (r : List ℕ) → length (converted_record r) ≡ length r
unfolding converted_record
length_converted r = go (holds_noise r)
  where
    go : (b : Bool) → length (cond b (set r wave_at triangle) r) ≡ length r
    go true = length-set r wave_at triangle
    go false = refl

pub records-long : (rs : List (List ℕ)) → length (each_out converted_record rs) ≡ length (concat rs)
records-long [] = refl
records-long (r ∷ rs) =
    length-append (converted_record r) (each_out converted_record rs)
    ∙ (λ i. length_converted r i + records-long rs i) ∙ sym (length-append r (concat rs))

-- ---- the tree with triangle

-- as many nodes beside each other
pub same_width : (ns : Forest) → width (triangled ns) ≡ width ns
unfolding triangled
same_width Nodes.none = refl
same_width (leaf p l rest) = ap suc (same_width rest)
same_width (box p k ns rest) = ap suc (same_width rest)

-- twice is once
triangled-kind : (k : ℕ) → triangled_kind (triangled_kind k) ≡ triangled_kind k
triangled-kind k = go (eqb k noise) refl
  where
    go : (b : Bool) → eqb k noise ≡ b → triangled_kind (cond b triangle k) ≡ cond b triangle k
    go true e = refl
    go false e = rw e refl

triangled_leaf_lem : (l : Leaf KeyframeTime) → triangled_leaf (triangled_leaf l) ≡ triangled_leaf l
triangled_leaf_lem (tree.tween x) = refl
triangled_leaf_lem (tree.spring x) = refl
triangled_leaf_lem (tree.keyframes x) = refl
triangled_leaf_lem (tree.path x) = refl
triangled_leaf_lem (tree.morph x) = refl
triangled_leaf_lem (tree.draw x) = refl
triangled_leaf_lem (tree.color x) = refl
triangled_leaf_lem (tree.waveform x) =
    ap (λ (k : ℕ). tree.waveform (record {
      kind = k;
      frequency = x.frequency;
      amplitude = x.amplitude;
      phase = x.phase;
      duty_cycle = x.duty_cycle;
      seed = x.seed;
      smoothness = x.smoothness;
      duration = x.duration;
    })) (triangled-kind x.kind)
triangled_leaf_lem (tree.preset x) = refl
triangled_leaf_lem (tree.label x) = refl
triangled_leaf_lem (tree.at x) = refl

triangled_twice : (ns : Forest) → triangled (triangled ns) ≡ triangled ns
unfolding triangled
triangled_twice Nodes.none = refl
triangled_twice (leaf p l rest) = (λ i. leaf p (triangled_leaf_lem l i) (triangled_twice rest i))
triangled_twice (box p k ns rest) = (λ i. box p k (triangled_twice ns i) (triangled_twice rest i))

-- ---- its records are the converted ones

leaf_record : (n p : ℕ) (l : Leaf KeyframeTime) → converted_record (record_of n (single p l)) ≡ record_of n (single p (triangled_leaf l))
unfolding converted_record holds_noise
leaf_record n p (tree.tween x) = refl
leaf_record n p (tree.spring x) = refl
leaf_record n p (tree.keyframes x) = refl
leaf_record n p (tree.path x) = refl
leaf_record n p (tree.morph x) = refl
leaf_record n p (tree.draw x) = refl
leaf_record n p (tree.color x) = refl
leaf_record n p (tree.waveform x) = go (eqb x.kind noise)
  where
    rest : List ℕ
    rest =
        (opt word).write x.frequency ++ ((opt word).write x.amplitude
        ++ ((opt word).write x.phase ++ ((opt word).write x.duty_cycle
        ++ ((opt word).write x.seed ++ ((opt word).write x.smoothness ++ (opt word).write x.duration)))))

    go : (b : Bool)
        → cond b (waveform_kind ∷ (big 2).write p ++ triangle ∷ rest) (waveform_kind ∷ (big 2).write p ++ x.kind ∷ rest)
        ≡ waveform_kind ∷ (big 2).write p ++ cond b triangle x.kind ∷ rest
    go true = refl
    go false = refl
leaf_record n p (tree.preset x) = refl
leaf_record n p (tree.label x) = refl
leaf_record n p (tree.at x) = refl

-- a container's record says no more of the nodes in it than their count
box_record : (n p : ℕ) (k : Container) (ns ms : Forest) → width ms ≡ width ns
    → converted_record (record_of n (holding p k ns)) ≡ record_of n (holding p k ms)
unfolding converted_record holds_noise
box_record n p tree.sequence ns ms e = ap (λ (w : ℕ). 3 ∷ (big 2).write p ++ (big 2).write w) (sym e)
box_record n p tree.parallel ns ms e = ap (λ (w : ℕ). 4 ∷ (big 2).write p ++ (big 2).write w) (sym e)
box_record n p (tree.group m) ns ms e = ap (λ (w : ℕ). 5 ∷ (big 2).write p ++ (m ∷ (big 2).write w)) (sym e)
box_record n p (tree.stagger q d) ns ms e =
    ap (λ (w : ℕ). 6 ∷ (big 2).write p ++ ((opt pattern_form).write q ++ ((opt word).write d ++ (big 2).write w))) (sym e)

records_converted : (n : ℕ) (ns : Forest) → map converted_record (records_of n ns) ≡ records_of n (triangled ns)
unfolding triangled
records_converted n Nodes.none = refl
records_converted n (leaf p l rest) = (λ i. leaf_record n p l i ∷ records_converted n rest i)
records_converted n (box p k ns rest) =
    ap (λ (rs : List (List ℕ)). converted_record (record_of n (holding p k ns)) ∷ rs)
    (map-append converted_record (records_of n ns) (records_of n rest))
    ∙ (λ i. box_record n p k ns (triangled ns) (same_width ns) i ∷ records_converted n ns i ++ records_converted n rest i)

each_out_lem : (rs : List (List ℕ)) → each_out converted_record rs ≡ concat (map converted_record rs)
each_out_lem [] = refl
each_out_lem (r ∷ rs) = ap (λ (l : List ℕ). converted_record r ++ l) (each_out_lem rs)

-- the head has no such byte
pub head_stays : (k : ℕ) → converted_record ((big 2).write k) ≡ (big 2).write k
unfolding converted_record
head_stays k = go (holds_noise ((big 2).write k))
  where
    go : (b : Bool) → cond b ((big 2).write k) ((big 2).write k) ≡ (big 2).write k
    go true = refl
    go false = refl

-- the converted sheet is that of the tree with triangle
sheet_converted : (n : ℕ) (ns : Forest) → converted_sheet n ns ≡ concat (all_records n (triangled ns))
unfolding converted_sheet all_records
sheet_converted n ns =
    each_out_lem (all_records n ns)
    ∙ (λ i. (head_stays (width ns) ∙ ap (big 2).write (sym (same_width ns))) i ++ concat (records_converted n ns i))

-- ---- which is within the limits

kind-below : (k : ℕ) → k < 5 → triangled_kind k < 5
kind-below k h = go (eqb k noise)
  where
    go : (b : Bool) → cond b triangle k < 5
    go true = omega arith
    go false = h

leaf_fine : (n d p : ℕ) (l : Leaf KeyframeTime) → (node_l n (inner_l n d)).ok (single p l)
    → (node_l n (inner_l n d)).ok (single p (triangled_leaf l))
leaf_fine n d p (tree.tween x) h = h
leaf_fine n d p (tree.spring x) h = h
leaf_fine n d p (tree.keyframes x) h = h
leaf_fine n d p (tree.path x) h = h
leaf_fine n d p (tree.morph x) h = h
leaf_fine n d p (tree.draw x) h = h
leaf_fine n d p (tree.color x) h = h
leaf_fine n d p (tree.waveform x) h = (h.0, (kind-below x.kind h.1.0, h.1.1))
leaf_fine n d p (tree.preset x) h = h
leaf_fine n d p (tree.label x) h = h
leaf_fine n d p (tree.at x) h = h

box_fine : (n d p : ℕ) (k : Container) (ns ms : Forest) → (node_l n (inner_l n d)).ok (holding p k ns) → (inner_l n d).ok ms
    → (node_l n (inner_l n d)).ok (holding p k ms)
box_fine n d p tree.sequence ns ms h g = (h.0, g)
box_fine n d p tree.parallel ns ms h g = (h.0, g)
box_fine n d p (tree.group m) ns ms h g = (h.0, (h.1.0, g))
box_fine n d p (tree.stagger q e) ns ms h g = (h.0, (h.1.0, (h.1.1.0, g)))

nodes_fine : (n d : ℕ) (ns : Forest) → OkNodes n (inner_l n d) ns → OkNodes n (inner_l n d) (triangled ns)
unfolding triangled
nodes_fine n d Nodes.none h = tt
nodes_fine n d (leaf p l rest) h = (leaf_fine n d p l h.0, nodes_fine n d rest h.1)
nodes_fine n zero (box p k ns rest) h = absurd (inside 4 n (inner_l n 0) p k ns h.0)
nodes_fine n (suc d) (box p k ns rest) h =
    let g = inside 4 n (inner_l n (suc d)) p k ns h.0 in (
      box_fine n (suc d) p k ns (triangled ns) h.0 (subst⁻¹ (Small 2) (same_width ns) g.0, nodes_fine n d ns g.1),
      nodes_fine n (suc d) rest h.1,
    )

fits-triangled : (n : ℕ) (ns : Forest) → Fits n ns → Fits n (triangled ns)
unfolding Fits
fits-triangled n ns h = (subst⁻¹ (Small 2) (same_width ns) h.0, nodes_fine n 16 ns h.1)

-- ---- an opened sheet

module _ (t s : List ℕ) (ns : Forest) (o : opening t s ≡ opened ns) where
  -- what the converter leaves
  pub leaves : converting t s ≡ (Accepted, converted_sheet (length t) ns)
  unfolding converting
  leaves = ap (convert_opened (length t) s) o

  within : sheet-laws.Decoded (length t) s ns
  within = sheet-laws.decoded (length t) s ns (holds_tree t s ns o)

  pub is_records : s ≡ concat (all_records (length t) ns)
  is_records = within.encodes ∙ sheet_flat (length t) ns within.fits

  keeps_length : length (converting t s).1 ≡ length s
  unfolding converted_sheet
  keeps_length = rw leaves (records-long (all_records (length t) ns) ∙ sym (ap length is_records))

  -- "one that has triangle in its place": the sheet of the tree with triangle
  pub encodes_triangled : (converting t s).1 ≡ encode (length t) (triangled ns)
  encodes_triangled =
      ap (λ (x : CheckAnswer × List ℕ). x.1) leaves ∙ sheet_converted (length t) ns
      ∙ sym (sheet_flat (length t) (triangled ns) (fits-triangled (length t) ns within.fits))

  pub decodes_triangled : decode (length t) (converting t s).1 ≡ some (triangled ns)
  decodes_triangled =
      ap (decode (length t)) encodes_triangled
      ∙ decodes (length t) (triangled ns) (fits-triangled (length t) ns within.fits)
      (omega (arith, ap length encodes_triangled, keeps_length, within.short))

  pub opens_triangled : opening t (converting t s).1 ≡ opened (triangled ns)
  opens_triangled = opened_text t s ns o (converting t s).1 ∙ ap decoded decodes_triangled

-- ---- for every text and every lent sheet

module _ (t s : List ℕ) where
  -- a refused sheet is as it was
  pub refused_stays : {r : Refusal} {p : ℕ} → opening t s ≡ shut r p → converting t s ≡ (Refused r p, s)
  unfolding converting
  refused_stays e = ap (convert_opened (length t) s) e

  -- "every other byte equal": as many bytes
  pub as_long : length (converting t s).1 ≡ length s
  as_long = go (opening t s) refl
    where
      go : (o : Opened) → opening t s ≡ o → length (converting t s).1 ≡ length s
      go (shut r p) e = rw (refused_stays e)
      go (opened ns) e = keeps_length t s ns e

  -- what is converted has a tree
  pub converts : (converting t s).0 ≡ Accepted → (ns : Forest) × (opening t s ≡ opened ns)
  converts e = go (opening t s) refl
    where
      go : (o : Opened) → opening t s ≡ o → (ns : Forest) × (opening t s ≡ opened ns)
      go (shut r p) q =
          let x : Refused r p ≡ Accepted = ap (λ (x : CheckAnswer × List ℕ). x.0) (sym (refused_stays q)) ∙ e in
          absurd (let z : ◌≡◌ {A = ℕ} 0 1 = cc in omega arith)
      go (opened ns) q = (ns, q)

  -- "Converting twice equals converting once"
  pub twice : converting t (converting t s).1 ≡ converting t s
  twice = go (opening t s) refl
    where
      go : (o : Opened) → opening t s ≡ o → converting t (converting t s).1 ≡ converting t s
      go (shut r p) e = ap (λ (x : CheckAnswer × List ℕ). converting t x.1) (refused_stays e)
      go (opened ns) e =
          let n = length t in
          leaves t (converting t s).1 (triangled ns) (opens_triangled t s ns e)
          ∙ ap (λ (l : List ℕ). (Accepted, l))
          (sheet_converted n (triangled ns)
          ∙ ap (λ (ms : Forest). concat (all_records n ms)) (triangled_twice ns)
          ∙ sym (sheet_converted n ns))
          ∙ sym (leaves t s ns e)
