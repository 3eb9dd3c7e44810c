-- Other numbers in the places of a tree's: which numbers it then has, and that the first ones put back give the tree.
use Prim.Native.Nat.{ℕ, zero, suc, ◌+◌}
use mathlib.Core.List.{List, [], ◌∷◌, ◌++◌, append_assoc}
use mathlib.Core.Path.{◌≡◌, refl, sym, ◌∙◌, ap}
use native.Mathlib.Omega.{arith}
use lib.ListN.{length, drop, get_or, length-append}
use lib.Seq.{drop-append_seam}
use Rattle.ast.specs.Tree as tree
use Rattle.ast.specs.Tree.{ValueExpr, scalar, array, KeyframeTime, percent, seconds, KeyframeEntry, Leaf, Nodes, leaf, box, width}
use Rattle.sheet.specs.Sheet.{Forest}
use Rattle.planed.specs.Planes.{time_number, value_numbers, entry_numbers, frame_numbers, leaf_numbers, numbers_of, count}
use Rattle.planed.specs.Planes.{fill_time, fill_value, fill_entry, fill_frames, fill_leaf, filled}

-- ---- the first k of some numbers, and 0 where there are no more

unfoldable pub first : ℕ → List ℕ → List ℕ
first zero xs = []
first (suc k) xs = get_or xs 0 0 ∷ first k (drop 1 xs)

second : (xs : List ℕ) → get_or (drop 1 xs) 0 0 ≡ get_or xs 1 0
second [] = refl
second (x ∷ xs) = refl

length-first : (k : ℕ) (xs : List ℕ) → length (first k xs) ≡ k
unfolding first
length-first zero xs = refl
length-first (suc k) xs = ap suc (length-first k (drop 1 xs))

drop-suc : (k : ℕ) (xs : List ℕ) → drop (suc k) xs ≡ drop k (drop 1 xs)
drop-suc zero [] = refl
drop-suc (suc k) [] = refl
drop-suc zero (x ∷ xs) = refl
drop-suc (suc k) (x ∷ xs) = refl

first_add : (a b : ℕ) (xs : List ℕ) → first (a + b) xs ≡ first a xs ++ first b (drop a xs)
unfolding first
first_add zero b xs = let e : 0 + b ≡ b = omega arith in rw e refl
first_add (suc a) b xs =
    let e : suc a + b ≡ suc (a + b) = omega arith in
    rw (e, drop-suc a xs) (ap (λ (l : List ℕ). get_or xs 0 0 ∷ l) (first_add a b (drop 1 xs)))

pub first-all : (xs : List ℕ) → first (length xs) xs ≡ xs
unfolding first
first-all [] = refl
first-all (x ∷ xs) = ap (λ (l : List ℕ). x ∷ l) (first-all xs)

-- ---- the numbers of a filled tree

entry-filled : (e : KeyframeEntry KeyframeTime) (xs : List ℕ) → entry_numbers (fill_entry e xs) ≡ first (length (entry_numbers e)) xs
unfolding first
entry-filled e xs = λ i. time e.time i ∷ value e.value i
  where
    time : (t : KeyframeTime) → time_number (fill_time t (get_or xs 0 0)) ≡ get_or xs 0 0
    time (percent x) = refl
    time (seconds x) = refl

    value : (v : ValueExpr) → value_numbers (fill_value v (get_or xs 1 0)) ≡ first (length (value_numbers v)) (drop 1 xs)
    value (scalar x) = ap (λ (y : ℕ). y ∷ []) (sym (second xs))
    value (array ys) = refl

frames-filled : (es : List (KeyframeEntry KeyframeTime)) (xs : List ℕ)
    → frame_numbers (fill_frames es xs) ≡ first (length (frame_numbers es)) xs
unfolding first frame_numbers fill_frames
frames-filled [] xs = refl
frames-filled (e ∷ es) xs =
    (λ i. entry-filled e xs i ++ frames-filled es (drop (length (entry_numbers e)) xs) i)
    ∙ sym (first_add (length (entry_numbers e)) (length (frame_numbers es)) xs)
    ∙ ap (λ (k : ℕ). first k xs) (sym (length-append (entry_numbers e) (frame_numbers es)))

leaf_filled : (l : Leaf KeyframeTime) (xs : List ℕ) → leaf_numbers (fill_leaf l xs) ≡ first (length (leaf_numbers l)) xs
unfolding first
leaf_filled (tree.tween x) xs = refl
leaf_filled (tree.spring x) xs = refl
leaf_filled (tree.keyframes x) xs = frames-filled x.frames xs
leaf_filled (tree.path x) xs = refl
leaf_filled (tree.morph x) xs = refl
leaf_filled (tree.draw x) xs = refl
leaf_filled (tree.color x) xs = refl
leaf_filled (tree.waveform x) xs = refl
leaf_filled (tree.preset x) xs = refl
leaf_filled (tree.label x) xs = refl
leaf_filled (tree.at x) xs = refl

pub numbers_filled : (ns : Forest) (xs : List ℕ) → numbers_of (filled ns xs) ≡ first (count ns) xs
unfolding first numbers_of filled
numbers_filled Nodes.none xs = refl
numbers_filled (leaf p l rest) xs =
    (λ i. leaf_filled l xs i ++ numbers_filled rest (drop (length (leaf_numbers l)) xs) i)
    ∙ sym (first_add (length (leaf_numbers l)) (count rest) xs)
    ∙ ap (λ (k : ℕ). first k xs) (sym (length-append (leaf_numbers l) (numbers_of rest)))
numbers_filled (box p b ns rest) xs =
    (λ i. numbers_filled ns xs i ++ numbers_filled rest (drop (count ns) xs) i)
    ∙ sym (first_add (count ns) (count rest) xs)
    ∙ ap (λ (k : ℕ). first k xs) (sym (length-append (numbers_of ns) (numbers_of rest)))

pub count-filled : (ns : Forest) (xs : List ℕ) → count (filled ns xs) ≡ count ns
count-filled ns xs = ap length (numbers_filled ns xs) ∙ length-first (count ns) xs

-- as many as there are places
pub numbers_put : (ns : Forest) (xs : List ℕ) → length xs ≡ count ns → numbers_of (filled ns xs) ≡ xs
numbers_put ns xs e = numbers_filled ns xs ∙ ap (λ (k : ℕ). first k xs) (sym e) ∙ first-all xs

-- ---- a tree's own numbers put back

entry_back : (e : KeyframeEntry KeyframeTime) (xs ys : List ℕ) → fill_entry (fill_entry e xs) (entry_numbers e ++ ys) ≡ e
entry_back e xs ys = λ i. record { time = time e.time i; value = value e.value i; easing = e.easing }
  where
    time : (t : KeyframeTime) → fill_time (fill_time t (get_or xs 0 0)) (time_number t) ≡ t
    time (percent x) = refl
    time (seconds x) = refl

    value : (v : ValueExpr) → fill_value (fill_value v (get_or xs 1 0)) (get_or (value_numbers v ++ ys) 0 0) ≡ v
    value (scalar x) = refl
    value (array ys) = refl

entry-count : (e : KeyframeEntry KeyframeTime) (xs : List ℕ) → length (entry_numbers (fill_entry e xs)) ≡ length (entry_numbers e)
entry-count e xs = ap length (entry-filled e xs) ∙ length-first (length (entry_numbers e)) xs

-- what is left behind a part's own numbers
behind : (k : ℕ) (zs bs ys : List ℕ) → k ≡ length zs → drop k ((zs ++ bs) ++ ys) ≡ bs ++ ys
behind k zs bs ys e = rw (e, append_assoc zs bs ys) (drop-append_seam zs (bs ++ ys))

frames_back : (es : List (KeyframeEntry KeyframeTime)) (xs ys : List ℕ) → fill_frames (fill_frames es xs) (frame_numbers es ++ ys) ≡ es
unfolding frame_numbers fill_frames
frames_back [] xs ys = refl
frames_back (e ∷ es) xs ys =
    (λ i. fill_entry (fill_entry e xs) (append_assoc (entry_numbers e) (frame_numbers es) ys i)
    ∷ fill_frames (fill_frames es (drop (length (entry_numbers e)) xs))
    (behind (length (entry_numbers (fill_entry e xs))) (entry_numbers e) (frame_numbers es) ys (entry-count e xs) i))
    ∙ (λ i. entry_back e xs (frame_numbers es ++ ys) i ∷ frames_back es (drop (length (entry_numbers e)) xs) ys i)

leaf_back : (l : Leaf KeyframeTime) (xs ys : List ℕ) → fill_leaf (fill_leaf l xs) (leaf_numbers l ++ ys) ≡ l
leaf_back (tree.tween x) xs ys = refl
leaf_back (tree.spring x) xs ys = refl
leaf_back (tree.keyframes x) xs ys =
    ap (λ (es : List (KeyframeEntry KeyframeTime)). tree.keyframes (record { target = x.target; frames = es; loop_mode = x.loop_mode }))
    (frames_back x.frames xs ys)
leaf_back (tree.path x) xs ys = refl
leaf_back (tree.morph x) xs ys = refl
leaf_back (tree.draw x) xs ys = refl
leaf_back (tree.color x) xs ys = refl
leaf_back (tree.waveform x) xs ys = refl
leaf_back (tree.preset x) xs ys = refl
leaf_back (tree.label x) xs ys = refl
leaf_back (tree.at x) xs ys = refl

leaf_count : (l : Leaf KeyframeTime) (xs : List ℕ) → length (leaf_numbers (fill_leaf l xs)) ≡ length (leaf_numbers l)
leaf_count l xs = ap length (leaf_filled l xs) ∙ length-first (length (leaf_numbers l)) xs

-- they may have been others in between
pub put_back : (ns : Forest) (xs ys : List ℕ) → filled (filled ns xs) (numbers_of ns ++ ys) ≡ ns
unfolding numbers_of filled
put_back Nodes.none xs ys = refl
put_back (leaf p l rest) xs ys =
    (λ i. leaf p (fill_leaf (fill_leaf l xs) (append_assoc (leaf_numbers l) (numbers_of rest) ys i))
    (filled (filled rest (drop (length (leaf_numbers l)) xs))
    (behind (length (leaf_numbers (fill_leaf l xs))) (leaf_numbers l) (numbers_of rest) ys (leaf_count l xs) i)))
    ∙ (λ i. leaf p (leaf_back l xs (numbers_of rest ++ ys) i) (put_back rest (drop (length (leaf_numbers l)) xs) ys i))
put_back (box p b ns rest) xs ys =
    (λ i. box p b (filled (filled ns xs) (append_assoc (numbers_of ns) (numbers_of rest) ys i))
    (filled (filled rest (drop (count ns) xs)) (behind (count (filled ns xs)) (numbers_of ns) (numbers_of rest) ys (count-filled ns xs) i)))
    ∙ (λ i. box p b (put_back ns xs (numbers_of rest ++ ys) i) (put_back rest (drop (count ns) xs) ys i))

-- as many nodes beside each other, and as many frames
pub width-filled : (ns : Forest) (xs : List ℕ) → width (filled ns xs) ≡ width ns
unfolding filled
width-filled Nodes.none xs = refl
width-filled (leaf p l rest) xs = ap suc (width-filled rest (drop (length (leaf_numbers l)) xs))
width-filled (box p b ns rest) xs = ap suc (width-filled rest (drop (count ns) xs))

pub length-frames : (es : List (KeyframeEntry KeyframeTime)) (xs : List ℕ) → length (fill_frames es xs) ≡ length es
unfolding fill_frames
length-frames [] xs = refl
length-frames (e ∷ es) xs = ap suc (length-frames es (drop (length (entry_numbers e)) xs))
