-- 02 (k), "Planes before storage": the numbers of a sheet's frames, the planed form of its tree.
use Rattle.std.specs.Prelude.{ℕ, zero, suc, ◌+◌, ◌*◌, ◌/◌, ◌%◌, cond, List, [], ◌∷◌, ◌++◌, ltb, length, drop, get_or}
use Rattle.std.proofs.Math.Option.{Option, none, some}
use Rattle.codec.specs.Codec.{Form, Reader, step, below, ◌▹◌, via, big, each}
use Rattle.ast.specs.Tree as tree
use Rattle.ast.specs.Tree.{ValueExpr, scalar, array, KeyframeTime, percent, seconds, KeyframeEntry, KeyframeSpec, Leaf, Nodes, leaf, box}
use Rattle.sheet.specs.Sheet.{Forest, whole}
use Rattle.sheet.specs.Sheet.{sheet_of}

-- ---- "the frame times and scalar frame values of all a sheet's tracks", "in sheet order": a frame's time, then its scalar value

abbrev pub time_number : KeyframeTime → ℕ
time_number (percent x) = x
time_number (seconds x) = x

abbrev pub value_numbers : ValueExpr → List ℕ
value_numbers (scalar x) = x ∷ []
value_numbers (array xs) = []

abbrev pub entry_numbers : KeyframeEntry KeyframeTime → List ℕ
entry_numbers e = time_number e.time ∷ value_numbers e.value

unfoldable pub frame_numbers : List (KeyframeEntry KeyframeTime) → List ℕ
frame_numbers [] = []
frame_numbers (e ∷ es) = entry_numbers e ++ frame_numbers es

abbrev pub leaf_numbers : Leaf KeyframeTime → List ℕ
leaf_numbers (tree.tween x) = []
leaf_numbers (tree.spring x) = []
leaf_numbers (tree.keyframes x) = frame_numbers x.frames
leaf_numbers (tree.path x) = []
leaf_numbers (tree.morph x) = []
leaf_numbers (tree.draw x) = []
leaf_numbers (tree.color x) = []
leaf_numbers (tree.waveform x) = []
leaf_numbers (tree.preset x) = []
leaf_numbers (tree.label x) = []
leaf_numbers (tree.at x) = []

unfoldable pub numbers_of : Forest → List ℕ
numbers_of Nodes.none = []
numbers_of (leaf p l rest) = leaf_numbers l ++ numbers_of rest
numbers_of (box p b ns rest) = numbers_of ns ++ numbers_of rest

-- ---- other numbers in their places: those of xs in that order, and 0 where there are no more

abbrev pub fill_time : KeyframeTime → ℕ → KeyframeTime
fill_time (percent x) y = percent y
fill_time (seconds x) y = seconds y

abbrev pub fill_value : ValueExpr → ℕ → ValueExpr
fill_value (scalar x) y = scalar y
fill_value (array xs) y = array xs

abbrev pub fill_entry : KeyframeEntry KeyframeTime → List ℕ → KeyframeEntry KeyframeTime
fill_entry e xs = record { time = fill_time e.time (get_or xs 0 0); value = fill_value e.value (get_or xs 1 0); easing = e.easing }

unfoldable pub fill_frames : List (KeyframeEntry KeyframeTime) → List ℕ → List (KeyframeEntry KeyframeTime)
fill_frames [] xs = []
fill_frames (e ∷ es) xs = fill_entry e xs ∷ fill_frames es (drop (length (entry_numbers e)) xs)

abbrev pub fill_track : KeyframeSpec KeyframeTime → List ℕ → KeyframeSpec KeyframeTime
fill_track x xs = record { target = x.target; frames = fill_frames x.frames xs; loop_mode = x.loop_mode }

abbrev pub fill_leaf : Leaf KeyframeTime → List ℕ → Leaf KeyframeTime
fill_leaf (tree.tween x) xs = tree.tween x
fill_leaf (tree.spring x) xs = tree.spring x
fill_leaf (tree.keyframes x) xs = tree.keyframes (fill_track x xs)
fill_leaf (tree.path x) xs = tree.path x
fill_leaf (tree.morph x) xs = tree.morph x
fill_leaf (tree.draw x) xs = tree.draw x
fill_leaf (tree.color x) xs = tree.color x
fill_leaf (tree.waveform x) xs = tree.waveform x
fill_leaf (tree.preset x) xs = tree.preset x
fill_leaf (tree.label x) xs = tree.label x
fill_leaf (tree.at x) xs = tree.at x

unfoldable pub filled : Forest → List ℕ → Forest
filled Nodes.none xs = Nodes.none
filled (leaf p l rest) xs = leaf p (fill_leaf l xs) (filled rest (drop (length (leaf_numbers l)) xs))
filled (box p b ns rest) xs = box p b (filled ns xs) (filled rest (drop (length (numbers_of ns)) xs))

-- ---- "as four planes, all first bytes to all fourth"

-- c bytes
abbrev pub plane_form : ℕ → Form (List ℕ)
plane_form c = each (below 256) c

-- the bytes of numbers, and the numbers of bytes
abbrev pub highs : List ℕ → List ℕ
highs [] = []
highs (x ∷ xs) = x / 256 ∷ highs xs

abbrev pub lows : List ℕ → List ℕ
lows [] = []
lows (x ∷ xs) = x % 256 ∷ lows xs

abbrev pub joined : List ℕ → List ℕ → List ℕ
joined [] bs = []
joined (a ∷ hs) [] = []
joined (a ∷ hs) (b ∷ bs) = (a * 256 + b) ∷ joined hs bs

-- c numbers of k bytes each: all their first bytes to all their last
abbrev pub planes_form : ℕ → ℕ → Form (List ℕ)
planes_form zero c = each (big zero) c
planes_form (suc k) c = via (planes_form k c ▹ plane_form c) (λ p. joined p.0 p.1) (λ xs. (highs xs, lows xs))

-- ---- the planed form of a tree

abbrev pub count : Forest → ℕ
count ns = length (numbers_of ns)

-- "The remaining bytes come first in their old order; then the numbers taken"
abbrev pub write_planed : ℕ → Forest → List ℕ
write_planed n ns = (sheet_of 0 n).write ns ++ (planes_form 4 (count ns)).write (numbers_of ns)

abbrev pub read_planed : ℕ → Reader Forest
read_planed n = step (sheet_of 0 n).read (λ ms. step (planes_form 4 (count ms)).read (λ xs bs. some (filled ms xs, bs)))

abbrev pub planed_form : ℕ → Form Forest
planed_form n = record { write = write_planed n; read = read_planed n }

unfoldable pub planed : ℕ → Forest → List ℕ
planed n ns = (planed_form n).write ns

-- the tree of the sheet for a text of n bytes that planes to those bytes, if there is one
unfoldable pub unplaned : ℕ → List ℕ → Option Forest
unplaned n bs = cond (ltb 65535 (length bs)) none (whole ((planed_form n).read bs))
