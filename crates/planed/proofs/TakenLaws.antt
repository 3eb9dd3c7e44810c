-- The bytes that stay do not depend on the numbers, nor does it whether a tree is within the limits. And a sheet is four bytes a number
-- longer than what stays.
use Prim.Native.Nat.{ℕ, zero, suc, ◌+◌, ◌*◌, ◌≤◌}
use mathlib.Core.List.{List, [], ◌∷◌, ◌++◌}
use mathlib.Core.Path.{◌≡◌, refl, ◌∙◌, ap, subst⁻¹}
use native.Mathlib.Omega.{arith}
use lib.ListN.{length, drop, get_or, length-append}
use lib.Seq.{get_or-drop}
use Rattle.codec.specs.Codec.{Form, big, opt, each_out}
use Rattle.codec.proofs.Laws.{Law, Small, All}
use Rattle.ast.specs.Tree as tree
use Rattle.ast.specs.Tree.{ValueExpr, scalar, array, KeyframeTime, percent, seconds, KeyframeEntry, Leaf, Container, Nodes, leaf, box}
use Rattle.ast.specs.Tree.{single, holding, width}
use Rattle.sheet.specs.Sheet.{word, span_form, easing_form, loop_form, pattern_form, Forest}
use Rattle.sheet.specs.Sheet.{time_form_of, value_form_of, entry_form_of, node_form_of, forest_of, inner_of, sheet_of}
use Rattle.planed.specs.Planes.{time_number, entry_numbers, value_numbers, frame_numbers, leaf_numbers, numbers_of, count}
use Rattle.planed.specs.Planes.{fill_time, fill_value, fill_entry, fill_frames, fill_leaf, filled}
use Rattle.sheet.proofs.Flat.{inside}
use Rattle.sheet.proofs.Laws.{time_l_of, value_l_of, entry_l_of, node_l_of, OkNodesOf, inner_l_of}
use Rattle.planed.proofs.FillLaws.{width-filled, length-frames}

-- ---- the bytes that stay

pub entry_stays : (n : ℕ) (e : KeyframeEntry KeyframeTime) (xs : List ℕ)
    → (entry_form_of 0 n).write (fill_entry e xs) ≡ (entry_form_of 0 n).write e
entry_stays n e xs = λ i. time e.time i ++ (value e.value i ++ (opt (easing_form n)).write e.easing)
  where
    time : (t : KeyframeTime) → (time_form_of 0).write (fill_time t (get_or xs 0 0)) ≡ (time_form_of 0).write t
    time (percent x) = refl
    time (seconds x) = refl

    value : (v : ValueExpr) → (value_form_of 0).write (fill_value v (get_or xs 1 0)) ≡ (value_form_of 0).write v
    value (scalar x) = refl
    value (array ys) = refl

frames_stay : (n : ℕ) (es : List (KeyframeEntry KeyframeTime)) (xs : List ℕ)
    → each_out (entry_form_of 0 n).write (fill_frames es xs) ≡ each_out (entry_form_of 0 n).write es
unfolding fill_frames
frames_stay n [] xs = refl
frames_stay n (e ∷ es) xs = λ i. entry_stays n e xs i ++ frames_stay n es (drop (length (entry_numbers e)) xs) i

leaf_stays : (n : ℕ) (blk : Form Forest) (p : ℕ) (l : Leaf KeyframeTime) (xs : List ℕ)
    → (node_form_of 0 n blk).write (single p (fill_leaf l xs)) ≡ (node_form_of 0 n blk).write (single p l)
leaf_stays n blk p (tree.tween x) xs = refl
leaf_stays n blk p (tree.spring x) xs = refl
leaf_stays n blk p (tree.keyframes x) xs =
    λ i. 2 ∷ (big 2).write p
    ++ ((span_form n).write x.target
    ++ (((big 2).write (length-frames x.frames xs i) ++ frames_stay n x.frames xs i) ++ (opt loop_form).write x.loop_mode))
leaf_stays n blk p (tree.path x) xs = refl
leaf_stays n blk p (tree.morph x) xs = refl
leaf_stays n blk p (tree.draw x) xs = refl
leaf_stays n blk p (tree.color x) xs = refl
leaf_stays n blk p (tree.waveform x) xs = refl
leaf_stays n blk p (tree.preset x) xs = refl
leaf_stays n blk p (tree.label x) xs = refl
leaf_stays n blk p (tree.at x) xs = refl

box_stays : (n : ℕ) (blk : Form Forest) (p : ℕ) (b : Container) (ns ms : Forest) → blk.write ms ≡ blk.write ns
    → (node_form_of 0 n blk).write (holding p b ms) ≡ (node_form_of 0 n blk).write (holding p b ns)
box_stays n blk p tree.sequence ns ms e = ap (λ (l : List ℕ). 3 ∷ (big 2).write p ++ l) e
box_stays n blk p tree.parallel ns ms e = ap (λ (l : List ℕ). 4 ∷ (big 2).write p ++ l) e
box_stays n blk p (tree.group m) ns ms e = ap (λ (l : List ℕ). 5 ∷ (big 2).write p ++ (m ∷ [] ++ l)) e
box_stays n blk p (tree.stagger q d) ns ms e =
    ap (λ (l : List ℕ). 6 ∷ (big 2).write p ++ ((opt pattern_form).write q ++ ((opt word).write d ++ l))) e

nodes_stay : (n d c : ℕ) (ns : Forest) (xs : List ℕ)
    → (forest_of 0 n (inner_of 0 n d) c).write (filled ns xs) ≡ (forest_of 0 n (inner_of 0 n d) c).write ns
unfolding filled
nodes_stay n d c Nodes.none xs = refl
nodes_stay n d zero (leaf p l rest) xs = refl
nodes_stay n d (suc c) (leaf p l rest) xs =
    λ i. leaf_stays n (inner_of 0 n d) p l xs i ++ nodes_stay n d c rest (drop (length (leaf_numbers l)) xs) i
nodes_stay n d zero (box p b ns rest) xs = refl
nodes_stay n zero (suc c) (box p b ns rest) xs =
    λ i. box_stays n (inner_of 0 n 0) p b ns (filled ns xs) refl i ++ nodes_stay n 0 c rest (drop (count ns) xs) i
nodes_stay n (suc d) (suc c) (box p b ns rest) xs =
    λ i. box_stays n (inner_of 0 n (suc d)) p b ns (filled ns xs)
    ((λ j. (big 2).write (width-filled ns xs j) ++ (forest_of 0 n (inner_of 0 n d) (width-filled ns xs j)).write (filled ns xs))
    ∙ (λ j. (big 2).write (width ns) ++ nodes_stay n d (width ns) ns xs j)) i
    ++ nodes_stay n (suc d) c rest (drop (count ns) xs) i

-- whatever the numbers are
pub stays : (n : ℕ) (ns : Forest) (xs : List ℕ) → (sheet_of 0 n).write (filled ns xs) ≡ (sheet_of 0 n).write ns
stays n ns xs =
    (λ j. (big 2).write (width-filled ns xs j) ++ (forest_of 0 n (inner_of 0 n 16) (width-filled ns xs j)).write (filled ns xs))
    ∙ (λ j. (big 2).write (width ns) ++ nodes_stay n 16 (width ns) ns xs j)

-- ---- within the limits

-- w bytes a number for those of ns, v for those of xs
module _ (w v n : ℕ) where
  abbrev pub Fit : List ℕ → Type 0
  Fit xs = (i : ℕ) → Small v (get_or xs i 0)

  fit_drop : (k : ℕ) (xs : List ℕ) → Fit xs → Fit (drop k xs)
  fit_drop k xs h i = subst⁻¹ (Small v) (get_or-drop k xs i 0) (h (k + i))

  pub entry-fits : (e : KeyframeEntry KeyframeTime) (xs : List ℕ) → Fit xs → (entry_l_of w n).ok e → (entry_l_of v n).ok (fill_entry e xs)
  entry-fits e xs h o = (time e.time, (value e.value o.1.0, o.1.1))
    where
      time : (t : KeyframeTime) → (time_l_of v).ok (fill_time t (get_or xs 0 0))
      time (percent x) = h 0
      time (seconds x) = h 0

      value : (y : ValueExpr) → (value_l_of w).ok y → (value_l_of v).ok (fill_value y (get_or xs 1 0))
      value (scalar x) o = h 1
      value (array ys) o = o

  frames_fit : (es : List (KeyframeEntry KeyframeTime)) (xs : List ℕ) → Fit xs
      → All (entry_l_of w n).ok es → All (entry_l_of v n).ok (fill_frames es xs)
  unfolding fill_frames
  frames_fit [] xs h o = tt
  frames_fit (e ∷ es) xs h o = (
    entry-fits e xs h o.0,
    frames_fit es (drop (length (entry_numbers e)) xs) (fit_drop (length (entry_numbers e)) xs h) o.1,
  )

  leaf_fits : {c d : Form Forest} (a : Law c) (b : Law d) (p : ℕ) (l : Leaf KeyframeTime) (xs : List ℕ) → Fit xs
      → (node_l_of w n a).ok (single p l) → (node_l_of v n b).ok (single p (fill_leaf l xs))
  leaf_fits a b p (tree.tween x) xs h o = o
  leaf_fits a b p (tree.spring x) xs h o = o
  leaf_fits a b p (tree.keyframes x) xs h o = (
    o.0,
    (
      o.1.0,
      ((subst⁻¹ (Small 2) (length-frames x.frames xs) o.1.1.0.0, frames_fit x.frames xs h o.1.1.0.1), o.1.1.1),
    ),
  )
  leaf_fits a b p (tree.path x) xs h o = o
  leaf_fits a b p (tree.morph x) xs h o = o
  leaf_fits a b p (tree.draw x) xs h o = o
  leaf_fits a b p (tree.color x) xs h o = o
  leaf_fits a b p (tree.waveform x) xs h o = o
  leaf_fits a b p (tree.preset x) xs h o = o
  leaf_fits a b p (tree.label x) xs h o = o
  leaf_fits a b p (tree.at x) xs h o = o

  -- the nodes in a container are within the limits where it is, and the other way round
  box_fits : {c d : Form Forest} (a : Law c) (b : Law d) (p : ℕ) (k : Container) (ns ms : Forest) → (a.ok ns → b.ok ms)
      → (node_l_of w n a).ok (holding p k ns) → (node_l_of v n b).ok (holding p k ms)
  box_fits a b p tree.sequence ns ms h o = (o.0, h o.1)
  box_fits a b p tree.parallel ns ms h o = (o.0, h o.1)
  box_fits a b p (tree.group m) ns ms h o = (o.0, (o.1.0, h o.1.1))
  box_fits a b p (tree.stagger q d) ns ms h o = (o.0, (o.1.0, (o.1.1.0, h o.1.1.1)))

  nodes_fit : (d : ℕ) (ns : Forest) (xs : List ℕ) → Fit xs → OkNodesOf w n (inner_l_of w n d) ns
      → OkNodesOf v n (inner_l_of v n d) (filled ns xs)
  unfolding filled
  nodes_fit d Nodes.none xs h o = tt
  nodes_fit d (leaf p l rest) xs h o = (
    leaf_fits (inner_l_of w n d) (inner_l_of v n d) p l xs h o.0,
    nodes_fit d rest (drop (length (leaf_numbers l)) xs) (fit_drop (length (leaf_numbers l)) xs h) o.1,
  )
  nodes_fit zero (box p b ns rest) xs h o = (
    box_fits (inner_l_of w n 0) (inner_l_of v n 0) p b ns (filled ns xs) (λ z. z) o.0,
    nodes_fit 0 rest (drop (count ns) xs) (fit_drop (count ns) xs h) o.1,
  )
  nodes_fit (suc d) (box p b ns rest) xs h o = (
    box_fits (inner_l_of w n (suc d)) (inner_l_of v n (suc d)) p b ns (filled ns xs)
        (λ z. (subst⁻¹ (Small 2) (width-filled ns xs) z.0, nodes_fit d ns xs h z.1)) o.0,
    nodes_fit (suc d) rest (drop (count ns) xs) (fit_drop (count ns) xs h) o.1,
  )

  pub filled-fits : (ns : Forest) (xs : List ℕ) → Fit xs → (inner_l_of w n 17).ok ns → (inner_l_of v n 17).ok (filled ns xs)
  filled-fits ns xs h o = (subst⁻¹ (Small 2) (width-filled ns xs) o.0, nodes_fit 16 ns xs h o.1)

-- ---- the numbers of a tree within the limits are f32s

module _ (w n : ℕ) where
  small_append : (xs ys : List ℕ) → All (Small w) xs → All (Small w) ys → All (Small w) (xs ++ ys)
  small_append [] ys h g = g
  small_append (x ∷ xs) ys h g = (h.0, small_append xs ys h.1 g)

  frames_small : (es : List (KeyframeEntry KeyframeTime)) → All (entry_l_of w n).ok es → All (Small w) (frame_numbers es)
  unfolding frame_numbers
  frames_small [] o = tt
  frames_small (e ∷ es) o = (
    time e.time o.0.0,
    small_append (value_numbers e.value) (frame_numbers es) (value e.value o.0.1.0)
        (frames_small es o.1),
  )
    where
      time : (t : KeyframeTime) → (time_l_of w).ok t → Small w (time_number t)
      time (percent x) o = o
      time (seconds x) o = o

      value : (y : ValueExpr) → (value_l_of w).ok y → All (Small w) (value_numbers y)
      value (scalar x) o = (o, tt)
      value (array ys) o = tt

  leaf_small : {c : Form Forest} (a : Law c) (p : ℕ) (l : Leaf KeyframeTime)
      → (node_l_of w n a).ok (single p l) → All (Small w) (leaf_numbers l)
  leaf_small a p (tree.tween x) o = tt
  leaf_small a p (tree.spring x) o = tt
  leaf_small a p (tree.keyframes x) o = frames_small x.frames o.1.1.0.1
  leaf_small a p (tree.path x) o = tt
  leaf_small a p (tree.morph x) o = tt
  leaf_small a p (tree.draw x) o = tt
  leaf_small a p (tree.color x) o = tt
  leaf_small a p (tree.waveform x) o = tt
  leaf_small a p (tree.preset x) o = tt
  leaf_small a p (tree.label x) o = tt
  leaf_small a p (tree.at x) o = tt

  pub nodes_small : (d : ℕ) (ns : Forest) → OkNodesOf w n (inner_l_of w n d) ns → All (Small w) (numbers_of ns)
  unfolding numbers_of
  nodes_small d Nodes.none o = tt
  nodes_small d (leaf p l rest) o =
      small_append (leaf_numbers l) (numbers_of rest) (leaf_small (inner_l_of w n d) p l o.0) (nodes_small d rest o.1)
  nodes_small zero (box p b ns rest) o = absurd (inside w n (inner_l_of w n 0) p b ns o.0)
  nodes_small (suc d) (box p b ns rest) o =
      small_append (numbers_of ns) (numbers_of rest) (nodes_small d ns (inside w n (inner_l_of w n (suc d)) p b ns o.0).1)
      (nodes_small (suc d) rest o.1)

-- ---- lengths

-- what w bytes a number add
module _ (n : ℕ) where
  entry-long : (e : KeyframeEntry KeyframeTime)
      → length ((entry_form_of 4 n).write e) ≡ length ((entry_form_of 0 n).write e) + 4 * length (entry_numbers e)
  entry-long e =
      let E = (opt (easing_form n)).write e.easing in
      let T = time e.time in
      let U = value e.value in
      omega (
        arith,
        T,
        U,
        length-append ((time_form_of 4).write e.time) ((value_form_of 4).write e.value ++ E),
        length-append ((value_form_of 4).write e.value) E,
        length-append ((time_form_of 0).write e.time) ((value_form_of 0).write e.value ++ E),
        length-append ((value_form_of 0).write e.value) E,
      )
    where
      time : (t : KeyframeTime) → length ((time_form_of 4).write t) ≡ length ((time_form_of 0).write t) + 4
      time (percent x) = refl
      time (seconds x) = refl

      value : (v : ValueExpr) → length ((value_form_of 4).write v) ≡ length ((value_form_of 0).write v) + 4 * length (value_numbers v)
      value (scalar x) = refl
      value (array ys) = omega arith

  frames-long : (es : List (KeyframeEntry KeyframeTime))
      → length (each_out (entry_form_of 4 n).write es) ≡ length (each_out (entry_form_of 0 n).write es) + 4 * length (frame_numbers es)
  unfolding frame_numbers
  frames-long [] = refl
  frames-long (e ∷ es) =
      omega (
        arith,
        entry-long e,
        frames-long es,
        length-append ((entry_form_of 4 n).write e) (each_out (entry_form_of 4 n).write es),
        length-append ((entry_form_of 0 n).write e) (each_out (entry_form_of 0 n).write es),
        length-append (entry_numbers e) (frame_numbers es),
      )

  leaf_long : (a b : Form Forest) (p : ℕ) (l : Leaf KeyframeTime)
      → length ((node_form_of 4 n a).write (single p l)) ≡ length ((node_form_of 0 n b).write (single p l)) + 4 * length (leaf_numbers l)
  leaf_long a b p (tree.tween x) = omega arith
  leaf_long a b p (tree.spring x) = omega arith
  leaf_long a b p (tree.keyframes x) =
      let S = (span_form n).write x.target in
      let L = (opt loop_form).write x.loop_mode in
      let F : ℕ → List ℕ = λ w. each_out (entry_form_of w n).write x.frames in
      let C = (big 2).write (length x.frames) in
      omega (
        arith,
        frames-long x.frames,
        length-append S ((C ++ F 4) ++ L),
        length-append (C ++ F 4) L,
        length-append C (F 4),
        length-append S ((C ++ F 0) ++ L),
        length-append (C ++ F 0) L,
        length-append C (F 0),
      )
  leaf_long a b p (tree.path x) = omega arith
  leaf_long a b p (tree.morph x) = omega arith
  leaf_long a b p (tree.draw x) = omega arith
  leaf_long a b p (tree.color x) = omega arith
  leaf_long a b p (tree.waveform x) = omega arith
  leaf_long a b p (tree.preset x) = omega arith
  leaf_long a b p (tree.label x) = omega arith
  leaf_long a b p (tree.at x) = omega arith

  box_long : (a b : Form Forest) (p : ℕ) (k : Container) (ns : Forest) (m : ℕ) → length (a.write ns) ≡ length (b.write ns) + m
      → length ((node_form_of 4 n a).write (holding p k ns)) ≡ length ((node_form_of 0 n b).write (holding p k ns)) + m
  box_long a b p tree.sequence ns m e = omega arith
  box_long a b p tree.parallel ns m e = omega arith
  box_long a b p (tree.group g) ns m e = omega arith
  box_long a b p (tree.stagger q d) ns m e =
      let Q = (opt pattern_form).write q in
      let D = (opt word).write d in
      omega (
        arith,
        e,
        length-append Q (D ++ a.write ns),
        length-append D (a.write ns),
        length-append Q (D ++ b.write ns),
        length-append D (b.write ns),
      )

  nodes-long : (d : ℕ) (ns : Forest) → OkNodesOf 4 n (inner_l_of 4 n d) ns
      → length ((forest_of 4 n (inner_of 4 n d) (width ns)).write ns)
      ≡ length ((forest_of 0 n (inner_of 0 n d) (width ns)).write ns) + 4 * count ns
  unfolding numbers_of
  nodes-long d Nodes.none o = refl
  nodes-long d (leaf p l rest) o =
      omega (
        arith,
        leaf_long (inner_of 4 n d) (inner_of 0 n d) p l,
        nodes-long d rest o.1,
        length-append ((node_form_of 4 n (inner_of 4 n d)).write (single p l)) ((forest_of 4 n (inner_of 4 n d) (width rest)).write rest),
        length-append ((node_form_of 0 n (inner_of 0 n d)).write (single p l)) ((forest_of 0 n (inner_of 0 n d) (width rest)).write rest),
        length-append (leaf_numbers l) (numbers_of rest),
      )
  nodes-long zero (box p b ns rest) o = absurd (inside 4 n (inner_l_of 4 n 0) p b ns o.0)
  nodes-long (suc d) (box p b ns rest) o =
      omega (
        arith,
        box_long (inner_of 4 n (suc d)) (inner_of 0 n (suc d)) p b ns (4 * count ns)
            (held (nodes-long d ns (inside 4 n (inner_l_of 4 n (suc d)) p b ns o.0).1)),
        nodes-long (suc d) rest o.1,
        length-append ((node_form_of 4 n (inner_of 4 n (suc d))).write (holding p b ns))
            ((forest_of 4 n (inner_of 4 n (suc d)) (width rest)).write rest),
        length-append ((node_form_of 0 n (inner_of 0 n (suc d))).write (holding p b ns))
            ((forest_of 0 n (inner_of 0 n (suc d)) (width rest)).write rest),
        length-append (numbers_of ns) (numbers_of rest),
      )
    where
      held : length ((forest_of 4 n (inner_of 4 n d) (width ns)).write ns)
          ≡ length ((forest_of 0 n (inner_of 0 n d) (width ns)).write ns) + 4 * count ns
          → length ((inner_of 4 n (suc d)).write ns) ≡ length ((inner_of 0 n (suc d)).write ns) + 4 * count ns
      held e = omega arith

  -- a sheet is four bytes a number longer than what stays
  pub sheet-long : (ns : Forest) → (inner_l_of 4 n 17).ok ns → length ((sheet_of 4 n).write ns) ≡ length ((sheet_of 0 n).write ns) + 4 * count ns
  sheet-long ns o = let e = nodes-long 16 ns o.1 in omega arith

-- ---- a number has at least a byte that stays

module _ (w n : ℕ) where
  entry_room : (e : KeyframeEntry KeyframeTime) → length (entry_numbers e) ≤ length ((entry_form_of w n).write e)
  entry_room e =
      let E = (opt (easing_form n)).write e.easing in
      omega (
        arith,
        time e.time,
        value e.value,
        length-append ((time_form_of w).write e.time) ((value_form_of w).write e.value ++ E),
        length-append ((value_form_of w).write e.value) E,
      )
    where
      time : (t : KeyframeTime) → 1 ≤ length ((time_form_of w).write t)
      time (percent x) = omega arith
      time (seconds x) = omega arith

      value : (v : ValueExpr) → length (value_numbers v) ≤ length ((value_form_of w).write v)
      value (scalar x) = omega arith
      value (array ys) = omega arith

  frames_room : (es : List (KeyframeEntry KeyframeTime)) → length (frame_numbers es) ≤ length (each_out (entry_form_of w n).write es)
  unfolding frame_numbers
  frames_room [] = omega arith
  frames_room (e ∷ es) =
      omega (
        arith,
        entry_room e,
        frames_room es,
        length-append ((entry_form_of w n).write e) (each_out (entry_form_of w n).write es),
        length-append (entry_numbers e) (frame_numbers es),
      )

  leaf_room : (a : Form Forest) (p : ℕ) (l : Leaf KeyframeTime) → length (leaf_numbers l) ≤ length ((node_form_of w n a).write (single p l))
  leaf_room a p (tree.tween x) = omega arith
  leaf_room a p (tree.spring x) = omega arith
  leaf_room a p (tree.keyframes x) =
      let S = (span_form n).write x.target in
      let L = (opt loop_form).write x.loop_mode in
      let F = each_out (entry_form_of w n).write x.frames in
      let C = (big 2).write (length x.frames) in
      omega (arith, frames_room x.frames, length-append S ((C ++ F) ++ L), length-append (C ++ F) L, length-append C F)
  leaf_room a p (tree.path x) = omega arith
  leaf_room a p (tree.morph x) = omega arith
  leaf_room a p (tree.draw x) = omega arith
  leaf_room a p (tree.color x) = omega arith
  leaf_room a p (tree.waveform x) = omega arith
  leaf_room a p (tree.preset x) = omega arith
  leaf_room a p (tree.label x) = omega arith
  leaf_room a p (tree.at x) = omega arith

  box_room : (a : Form Forest) (p : ℕ) (k : Container) (ns : Forest) (m : ℕ) → m ≤ length (a.write ns)
      → m ≤ length ((node_form_of w n a).write (holding p k ns))
  box_room a p tree.sequence ns m e = omega arith
  box_room a p tree.parallel ns m e = omega arith
  box_room a p (tree.group g) ns m e = omega arith
  box_room a p (tree.stagger q d) ns m e =
      let Q = (opt pattern_form).write q in
      let D = (opt word).write d in
      omega (arith, e, length-append Q (D ++ a.write ns), length-append D (a.write ns))

  nodes_room : (d : ℕ) (ns : Forest) → OkNodesOf w n (inner_l_of w n d) ns
      → count ns ≤ length ((forest_of w n (inner_of w n d) (width ns)).write ns)
  unfolding numbers_of
  nodes_room d Nodes.none o = omega arith
  nodes_room d (leaf p l rest) o =
      omega (
        arith,
        leaf_room (inner_of w n d) p l,
        nodes_room d rest o.1,
        length-append ((node_form_of w n (inner_of w n d)).write (single p l)) ((forest_of w n (inner_of w n d) (width rest)).write rest),
        length-append (leaf_numbers l) (numbers_of rest),
      )
  nodes_room zero (box p b ns rest) o = absurd (inside w n (inner_l_of w n 0) p b ns o.0)
  nodes_room (suc d) (box p b ns rest) o =
      omega (
        arith,
        box_room (inner_of w n (suc d)) p b ns (count ns)
            (held (nodes_room d ns (inside w n (inner_l_of w n (suc d)) p b ns o.0).1)),
        nodes_room (suc d) rest o.1,
        length-append ((node_form_of w n (inner_of w n (suc d))).write (holding p b ns))
            ((forest_of w n (inner_of w n (suc d)) (width rest)).write rest),
        length-append (numbers_of ns) (numbers_of rest),
      )
    where
      held : count ns ≤ length ((forest_of w n (inner_of w n d) (width ns)).write ns) → count ns ≤ length ((inner_of w n (suc d)).write ns)
      held e = omega arith

  pub sheet_room : (ns : Forest) → (inner_l_of w n 17).ok ns → count ns ≤ length ((sheet_of w n).write ns)
  sheet_room ns o = let e = nodes_room 16 ns o.1 in omega arith
