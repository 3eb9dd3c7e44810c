-- The presets of a tree, node by node.
use Prim.Native.Nat.{ℕ, zero, suc, ◌+◌}
use mathlib.Core.List.{List, [], ◌∷◌, ◌++◌, map, append_assoc}
use mathlib.Core.Option.{some}
use mathlib.Core.Path.{◌≡◌, refl, sym, ap, ◌∙◌, subst}
use lib.ListN.{drop}
use lib.Seq.{drop-drop, drop_at}
use Rattle.ast.specs.Tree as tree
use Rattle.ast.specs.Tree.{Nodes, Leaf, KeyframeTime, PresetCall, leaf, box, single, holding, map_leaf, map_times}
use Rattle.number.specs.Time.{Key}
use Rattle.grammar.specs.Grammar.{stored}
use Rattle.codec.specs.Codec.{big, opt}
use Rattle.codec.proofs.Laws.{All}
use Rattle.sheet.proofs.FormLaws.{length-big}
use Rattle.sheet.specs.Sheet.{Node, Forest, word, easing_form, span_form}
use Rattle.sheet.specs.Records.{record_of, nodes_of, kind_of}
use Rattle.sheet.proofs.Laws.{span_l, node_l, inner_l, OkNodes}
use Rattle.sheet.proofs.Flat.{concat, inside}
use Rattle.sheet_records.proofs.PlaceLaws.{Behind}
use Rattle.books.specs.Calls.{named, presets}
use Rattle.calls.specs.Means.{named_by, RecordHere}

-- the names of some nodes
unfoldable pub spoken : List ℕ → List Node → List (List ℕ)
spoken t [] = []
spoken t (x ∷ xs) = named_by t x ++ spoken t xs

spoken_append : (t : List ℕ) (xs ys : List Node) → spoken t (xs ++ ys) ≡ spoken t xs ++ spoken t ys
unfolding spoken
spoken_append t [] ys = refl
spoken_append t (x ∷ xs) ys =
    ap (λ (l : List (List ℕ)). named_by t x ++ l) (spoken_append t xs ys) ∙ sym (append_assoc (named_by t x) (spoken t xs) (spoken t ys))

pub presets_are : (t : List ℕ) (ns : Forest) → presets t ns ≡ spoken t (nodes_of ns)
unfolding spoken
presets_are t Nodes.none = refl
presets_are t (leaf p l rest) = ap (λ (x : List (List ℕ)). named t l ++ x) (presets_are t rest)
presets_are t (box p b ns rest) =
    (λ i. presets_are t ns i ++ presets_are t rest i) ∙ sym (spoken_append t (nodes_of ns) (nodes_of rest))

-- stored times change no name
named-same : (t : List ℕ) (l : Leaf Key) → named t (map_leaf stored l) ≡ named t l
named-same t (tree.tween x) = refl
named-same t (tree.spring x) = refl
named-same t (tree.keyframes x) = refl
named-same t (tree.path x) = refl
named-same t (tree.morph x) = refl
named-same t (tree.draw x) = refl
named-same t (tree.color x) = refl
named-same t (tree.waveform x) = refl
named-same t (tree.preset x) = refl
named-same t (tree.label x) = refl
named-same t (tree.at x) = refl

pub presets-same : (t : List ℕ) (ns : Nodes Key) → presets t (map_times stored ns) ≡ presets t ns
presets-same t Nodes.none = refl
presets-same t (leaf p l rest) = (λ i. named-same t l i ++ presets-same t rest i)
presets-same t (box p b ns rest) = (λ i. presets-same t ns i ++ presets-same t rest i)

-- ---- a record

-- the name of a preset lies in the text
abbrev pub SpanOk : ℕ → Node → Type 0
SpanOk n (single p (tree.tween x)) = Unit {0}
SpanOk n (single p (tree.spring x)) = Unit {0}
SpanOk n (single p (tree.keyframes x)) = Unit {0}
SpanOk n (single p (tree.path x)) = Unit {0}
SpanOk n (single p (tree.morph x)) = Unit {0}
SpanOk n (single p (tree.draw x)) = Unit {0}
SpanOk n (single p (tree.color x)) = Unit {0}
SpanOk n (single p (tree.waveform x)) = Unit {0}
SpanOk n (single p (tree.preset x)) = (span_l n).ok x.name
SpanOk n (single p (tree.label x)) = Unit {0}
SpanOk n (single p (tree.at x)) = Unit {0}
SpanOk n (holding p b ns) = Unit {0}

leaf_span : (n d p : ℕ) (l : Leaf KeyframeTime) → (node_l n (inner_l n d)).ok (single p l) → SpanOk n (single p l)
leaf_span n d p (tree.tween x) h = tt
leaf_span n d p (tree.spring x) h = tt
leaf_span n d p (tree.keyframes x) h = tt
leaf_span n d p (tree.path x) h = tt
leaf_span n d p (tree.morph x) h = tt
leaf_span n d p (tree.draw x) h = tt
leaf_span n d p (tree.color x) h = tt
leaf_span n d p (tree.waveform x) h = tt
leaf_span n d p (tree.preset x) h = h.1.0
leaf_span n d p (tree.label x) h = tt
leaf_span n d p (tree.at x) h = tt

all_append : (P : Node → Type 0) (xs ys : List Node) → All P xs → All P ys → All P (xs ++ ys)
all_append P [] ys h g = g
all_append P (x ∷ xs) ys h g = (h.0, all_append P xs ys h.1 g)

pub all_spans : (n d : ℕ) (ns : Forest) → OkNodes n (inner_l n d) ns → All (SpanOk n) (nodes_of ns)
all_spans n d Nodes.none h = tt
all_spans n d (leaf p l rest) h = (leaf_span n d p l h.0, all_spans n d rest h.1)
all_spans n zero (box p k ns rest) h = absurd (inside 4 n (inner_l n 0) p k ns h.0)
all_spans n (suc d) (box p k ns rest) h = (
  tt,
  all_append (SpanOk n) (nodes_of ns) (nodes_of rest) (all_spans n d ns (inside 4 n (inner_l n (suc d)) p k ns h.0).1)
      (all_spans n (suc d) rest h.1),
)

-- the record of a preset at a place: its name behind its kind and its start
pub record_here : {n : ℕ} {s : List ℕ} {ys : List Node} {at k : ℕ} (x : Node) → Behind n s (x ∷ ys) at → SpanOk n x → kind_of x ≡ k
    → RecordHere n s at k x
record_here {n} {s} {ys} {at} x b o e = record {
  kind = e;
  name = λ q p f. go q p (subst (λ (y : Node). Behind n s (y ∷ ys) at) f b) (subst (SpanOk n) f o);
}
  where
    go : (q : PresetCall) (p : ℕ) → Behind n s (single p (tree.preset q) ∷ ys) at → (span_l n).ok q.name
        → (rest : List ℕ) × ((span_form n).read (drop (at + 3) s) ≡ some (q.name, rest))
    go q p b o =
        let w = (span_form n).write q.name in
        let r = (opt word).write q.duration ++ (opt (easing_form n)).write q.easing in
        let k = concat (map (record_of n) ys) in
        let e : drop (at + 3) s ≡ w ++ (r ++ k) =
        sym (drop-drop 3 at s) ∙ ap (drop 3) b.here ∙ ap (drop 2) (append_assoc ((big 2).write p) (w ++ r) k)
        ∙ drop_at ((big 2).write p) ((w ++ r) ++ k) 2 (length-big 2 p) ∙ append_assoc w r k
        in
        (r ++ k, ap (λ (l : List ℕ). (span_form n).read l) e ∙ (span_l n).law.back q.name o (r ++ k))
