-- A sheet without tracks is its own planed form.
use Prim.Native.Nat.{ℕ, zero, suc}
use mathlib.Core.List.{List, [], ◌∷◌, ◌++◌, append-nil}
use mathlib.Core.Path.{◌≡◌, refl, sym, ◌∙◌, ap}
use native.Mathlib.Omega.{arith}
use lib.ListN.{length}
use Rattle.codec.specs.Codec.{Form, big, opt, each_out}
use Rattle.ast.specs.Tree as tree
use Rattle.ast.specs.Tree.{KeyframeTime, KeyframeEntry, Leaf, Container, Nodes, leaf, box, single, holding, width}
use Rattle.sheet.specs.Sheet.{word, span_form, loop_form, pattern_form, Forest, encode}
use Rattle.sheet.proofs.Laws.{Fits}
use Rattle.sheet.specs.Sheet.{entry_form_of, node_form_of, forest_of, inner_of, sheet_of}
use Rattle.planed.specs.Planes.{frame_numbers, leaf_numbers, numbers_of, planes_form, planed}
use Rattle.sheet.proofs.Laws.{OkNodesOf, inner_l_of}
use Rattle.sheet.proofs.Flat.{inside}

no_front : (xs ys : List ℕ) → xs ++ ys ≡ [] → xs ≡ []
no_front [] ys e = refl
no_front (x ∷ xs) ys e = absurd (let z = ap length e in omega arith)

no_back : (xs ys : List ℕ) → xs ++ ys ≡ [] → ys ≡ []
no_back [] ys e = e
no_back (x ∷ xs) ys e = absurd (let z = ap length e in omega arith)

no_frames : (es : List (KeyframeEntry KeyframeTime)) → frame_numbers es ≡ [] → es ≡ []
unfolding frame_numbers
no_frames [] e = refl
no_frames (x ∷ es) e = absurd (let z = ap length e in omega arith)

module _ (n : ℕ) where
  leaf_plain : (a b : Form Forest) (p : ℕ) (l : Leaf KeyframeTime) → leaf_numbers l ≡ []
      → (node_form_of 4 n a).write (single p l) ≡ (node_form_of 0 n b).write (single p l)
  leaf_plain a b p (tree.tween x) e = refl
  leaf_plain a b p (tree.spring x) e = refl
  leaf_plain a b p (tree.keyframes x) e =
      let W : ℕ → List (KeyframeEntry KeyframeTime) → List ℕ = λ w es. 2 ∷ (big 2).write p
      ++ ((span_form n).write x.target
      ++ (((big 2).write (length es) ++ each_out (entry_form_of w n).write es) ++ (opt loop_form).write x.loop_mode))
      in
      ap (W 4) (no_frames x.frames e) ∙ sym (ap (W 0) (no_frames x.frames e))
  leaf_plain a b p (tree.path x) e = refl
  leaf_plain a b p (tree.morph x) e = refl
  leaf_plain a b p (tree.draw x) e = refl
  leaf_plain a b p (tree.color x) e = refl
  leaf_plain a b p (tree.waveform x) e = refl
  leaf_plain a b p (tree.preset x) e = refl
  leaf_plain a b p (tree.label x) e = refl
  leaf_plain a b p (tree.at x) e = refl

  box_plain : (a b : Form Forest) (p : ℕ) (k : Container) (ns : Forest) → a.write ns ≡ b.write ns
      → (node_form_of 4 n a).write (holding p k ns) ≡ (node_form_of 0 n b).write (holding p k ns)
  box_plain a b p tree.sequence ns e = ap (λ (l : List ℕ). 3 ∷ (big 2).write p ++ l) e
  box_plain a b p tree.parallel ns e = ap (λ (l : List ℕ). 4 ∷ (big 2).write p ++ l) e
  box_plain a b p (tree.group m) ns e = ap (λ (l : List ℕ). 5 ∷ (big 2).write p ++ (m ∷ [] ++ l)) e
  box_plain a b p (tree.stagger q d) ns e =
      ap (λ (l : List ℕ). 6 ∷ (big 2).write p ++ ((opt pattern_form).write q ++ ((opt word).write d ++ l))) e

  nodes-plain : (d : ℕ) (ns : Forest) → OkNodesOf 4 n (inner_l_of 4 n d) ns → numbers_of ns ≡ []
      → (forest_of 4 n (inner_of 4 n d) (width ns)).write ns ≡ (forest_of 0 n (inner_of 0 n d) (width ns)).write ns
  unfolding numbers_of
  nodes-plain d Nodes.none o e = refl
  nodes-plain d (leaf p l rest) o e =
      λ i. leaf_plain (inner_of 4 n d) (inner_of 0 n d) p l (no_front (leaf_numbers l) (numbers_of rest) e) i
      ++ nodes-plain d rest o.1 (no_back (leaf_numbers l) (numbers_of rest) e) i
  nodes-plain zero (box p b ns rest) o e = absurd (inside 4 n (inner_l_of 4 n 0) p b ns o.0)
  nodes-plain (suc d) (box p b ns rest) o e =
      λ i. box_plain (inner_of 4 n (suc d)) (inner_of 0 n (suc d)) p b ns
      (λ j. (big 2).write (width ns)
      ++ nodes-plain d ns (inside 4 n (inner_l_of 4 n (suc d)) p b ns o.0).1 (no_front (numbers_of ns) (numbers_of rest) e) j) i
      ++ nodes-plain (suc d) rest o.1 (no_back (numbers_of ns) (numbers_of rest) e) i

  pub no_track : (ns : Forest) → Fits n ns → numbers_of ns ≡ [] → planed n ns ≡ encode n ns
  unfolding planed encode Fits
  no_track ns h e =
      ap (λ (xs : List ℕ). (sheet_of 0 n).write ns ++ (planes_form 4 0).write xs) e ∙ append-nil ((sheet_of 0 n).write ns)
      ∙ sym (λ i. (big 2).write (width ns) ++ nodes-plain 16 ns h.1 e i)
