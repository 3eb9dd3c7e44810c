-- The ordinals and the records of a sheet, and the places at which checking and lining refuse, are at most 65,535.
use Prim.Native.Nat.{ℕ, zero, suc, ◌+◌, ◌≤◌, ◌<◌}
use Prim.Native.String.{String}
use mathlib.Core.Bool.{Bool, true, false, cond}
use mathlib.Core.List.{List, [], ◌∷◌, ◌++◌}
use mathlib.Core.Option.{Option, none, some}
use mathlib.Core.Path.{◌≡◌, refl, ap, ◌∙◌}
use native.Mathlib.Omega.{arith}
use lib.Dec.{ltb}
use lib.ListN.{length, get_elem?, length-append}
use borrow.Author.Tests.{ltb-false}
use Rattle.text.specs.Limits.{text_limit}
use Rattle.text.specs.Bytes.{is_foreign}
use Rattle.text.specs.Words.{or_else}
use Rattle.codec.specs.Codec.{big}
use Rattle.ast.specs.Tree as tree
use Rattle.ast.specs.Tree.{Nodes, KeyframeTime, Leaf, Container, leaf, box, single, holding, width, records}
use Rattle.sheet.specs.Sheet.{Forest, encode, decode}
use Rattle.sheet.specs.Records.{record_of, records_of, all_records}
use Rattle.sheet.specs.Opening.{Opened, opened, shut, foreign_from, unless_foreign, opening}
use Rattle.sheet.specs.Opening as begins
use Rattle.sheet.proofs.Laws.{Fits, decoded}
use Rattle.sheet.proofs.Flat.{concat, concat_append, sheet_flat}
use Rattle.checking.specs.Rules.{validate_leaf, validate_container, at_ordinal, validate_nodes}
use Rattle.checking.specs.Checking.{is_list, unless_unknown, opening_under}
use Rattle.error.specs.declared.Refusal.{Refusal}
use Rattle.error.specs.declared.Refusal.TheVariants.{TextTooLong, UnknownList}

-- ---- as many bytes as records, or more

leaf_some : (n p : ℕ) (l : Leaf KeyframeTime) → 1 ≤ length (record_of n (single p l))
leaf_some n p (tree.tween x) = omega arith
leaf_some n p (tree.spring x) = omega arith
leaf_some n p (tree.keyframes x) = omega arith
leaf_some n p (tree.path x) = omega arith
leaf_some n p (tree.morph x) = omega arith
leaf_some n p (tree.draw x) = omega arith
leaf_some n p (tree.color x) = omega arith
leaf_some n p (tree.waveform x) = omega arith
leaf_some n p (tree.preset x) = omega arith
leaf_some n p (tree.label x) = omega arith
leaf_some n p (tree.at x) = omega arith

box_some : (n p : ℕ) (k : Container) (ns : Forest) → 1 ≤ length (record_of n (holding p k ns))
box_some n p tree.sequence ns = omega arith
box_some n p tree.parallel ns = omega arith
box_some n p (tree.group m) ns = omega arith
box_some n p (tree.stagger q d) ns = omega arith

nodes_some : (n : ℕ) (ns : Forest) → records ns ≤ length (concat (records_of n ns))
nodes_some n Nodes.none = omega arith
nodes_some n (leaf p l rest) =
    omega (arith, leaf_some n p l, nodes_some n rest, length-append (record_of n (single p l)) (concat (records_of n rest)))
nodes_some n (box p k ns rest) =
    let e = ap length (concat_append (records_of n ns) (records_of n rest))
    ∙ length-append (concat (records_of n ns)) (concat (records_of n rest))
    in
    omega (
      arith,
      box_some n p k ns,
      nodes_some n ns,
      nodes_some n rest,
      e,
      length-append (record_of n (holding p k ns)) (concat (records_of n ns ++ records_of n rest)),
    )

pub sheet_some : (n : ℕ) (ns : Forest) → Fits n ns → records ns ≤ length (encode n ns)
unfolding all_records
sheet_some n ns h =
    omega (arith, nodes_some n ns, ap length (sheet_flat n ns h), length-append ((big 2).write (width ns)) (concat (records_of n ns)))

-- a record is no longer than all of them
one_of : (rs : List (List ℕ)) (i : ℕ) (r : List ℕ) → get_elem? rs i ≡ some r → length r ≤ length (concat rs)
one_of [] i r e = absurd (let z : ◌≡◌ {A = ℕ} 0 1 = cc in omega arith)
one_of (q ∷ rs) zero r e = let z : q ≡ r = cc in omega (arith, ap length z, length-append q (concat rs))
one_of (q ∷ rs) (suc i) r e = omega (arith, one_of rs i r e, length-append q (concat rs))

pub sheet-one : (n : ℕ) (ns : Forest) → Fits n ns → (i : ℕ) (r : List ℕ)
    → get_elem? (all_records n ns) i ≡ some r → length r ≤ length (encode n ns)
sheet-one n ns h i r e = omega (arith, one_of (all_records n ns) i r e, ap length (sheet_flat n ns h))

-- ---- the ordinal of a broken rule

abbrev pub Below : ℕ → Option (Refusal × ℕ) → Type 0
Below m none = Unit {0}
Below m (some f) = f.1 < m

below_more : (o : Option (Refusal × ℕ)) (m k : ℕ) → m ≤ k → Below m o → Below k o
below_more none m k h b = tt
below_more (some f) m k h b = omega arith

or_below : (m : ℕ) (a b : Option (Refusal × ℕ)) → Below m a → Below m b → Below m (or_else a b)
or_below m none b h g = g
or_below m (some f) b h g = h

at-below : (i m : ℕ) (o : Option Refusal) → i < m → Below m (at_ordinal i o)
at-below i m none h = tt
at-below i m (some r) h = h

pub nodes-below : (names : List String) (t : List ℕ) (i : ℕ) (ns : Forest) → Below (i + records ns) (validate_nodes names t i ns)
unfolding validate_nodes
nodes-below names t i Nodes.none = tt
nodes-below names t i (leaf p l rest) =
    let b = validate_nodes names t (suc i) rest in
    let m = i + suc (records rest) in
    or_below m (at_ordinal i (validate_leaf names t l)) b (at-below i m (validate_leaf names t l) (omega arith))
    (below_more b (suc i + records rest) m (omega arith) (nodes-below names t (suc i) rest))
nodes-below names t i (box p k ns rest) =
    let a = validate_nodes names t (suc i) ns in
    let b = validate_nodes names t (suc i + records ns) rest in
    let m = i + suc (records ns + records rest) in
    or_below m (at_ordinal i (validate_container k)) (or_else a b) (at-below i m (validate_container k) (omega arith))
    (or_below m a b (below_more a (suc i + records ns) m (omega arith) (nodes-below names t (suc i) ns))
    (below_more b (suc i + records ns + records rest) m (omega arith) (nodes-below names t (suc i + records ns) rest)))

-- ---- what checking and lining refuse first

abbrev pub Before : ℕ → Option ℕ → Type 0
Before m none = Unit {0}
Before m (some p) = p < m

before_more : (o : Option ℕ) (m k : ℕ) → m ≤ k → Before m o → Before k o
before_more none m k h b = tt
before_more (some p) m k h b = omega arith

foreign_step : (x : Bool) (i n : ℕ) (o : Option ℕ) → Before (suc i + n) o → Before (i + suc n) (elim x [ true ↦ some i | false ↦ o ])
foreign_step true i n o h = omega arith
foreign_step false i n o h = before_more o (suc i + n) (i + suc n) (omega arith) h

pub foreign_before : (i : ℕ) (t : List ℕ) → Before (i + length t) (foreign_from i t)
unfolding foreign_from
foreign_before i [] = tt
foreign_before i (b ∷ t) = foreign_step (is_foreign b) i (length t) (foreign_from (suc i) t) (foreign_before (suc i) t)

-- a tree for a text of n bytes: its count of records, and each record's length
pub record Slight (n : ℕ) (ns : Forest) : Type 0 where
  pub few : records ns ≤ 65535
  pub short : (i : ℕ) (r : List ℕ) → get_elem? (all_records n ns) i ≡ some r → length r ≤ 65535

abbrev pub Within : ℕ → Opened → Type 0
Within n (shut r p) = p ≤ text_limit
Within n (opened ns) = Slight n ns

slight : (n : ℕ) (s : List ℕ) (ns : Forest) → decode n s ≡ some ns → Slight n ns
slight n s ns e =
    let d = decoded n s ns e in
    let h = ap length d.encodes in
    record {
      few = omega (arith, d.short, h, sheet_some n ns d.fits);
      short = λ i r g. omega (arith, d.short, h, sheet-one n ns d.fits i r g);
    }

decoded-within : (t s : List ℕ) → Within (length t) (begins.decoded (decode (length t) s))
decoded-within t s = go (decode (length t) s) refl
  where
    go : (d : Option Forest) → decode (length t) s ≡ d → Within (length t) (begins.decoded d)
    go none e = omega arith
    go (some ns) e = slight (length t) s ns e

-- 1 and 2, then o
text-within : (t : List ℕ) (o : Opened) → Within (length t) o
    → Within (length t) (cond (ltb text_limit (length t)) (shut TextTooLong 0) (unless_foreign (foreign_from 0 t) o))
text-within t o w = long (ltb text_limit (length t)) refl
  where
    foreign : (f : Option ℕ) → Before (length t) f → length t ≤ text_limit → Within (length t) (unless_foreign f o)
    foreign (some p) h l = omega arith
    foreign none h l = w

    long : (b : Bool) → ltb text_limit (length t) ≡ b
        → Within (length t) (cond b (shut TextTooLong 0) (unless_foreign (foreign_from 0 t) o))
    long true e = omega arith
    long false e =
        foreign (foreign_from 0 t) (before_more (foreign_from 0 t) (0 + length t) (length t) (omega arith) (foreign_before 0 t))
        (omega (arith, ltb-false text_limit (length t) e))

-- before lining
pub opening-within : (t s : List ℕ) → Within (length t) (opening t s)
unfolding opening
opening-within t s = text-within t (begins.decoded (decode (length t) s)) (decoded-within t s)

-- before checking
pub under-within : (list : ℕ) (t s : List ℕ) → Within (length t) (opening_under list t s)
unfolding opening_under
under-within list t s = text-within t (unless_unknown list (begins.decoded (decode (length t) s))) (go (is_list list))
  where
    go : (b : Bool) → Within (length t) (cond b (begins.decoded (decode (length t) s)) (shut UnknownList 0))
    go true = decoded-within t s
    go false = omega arith
