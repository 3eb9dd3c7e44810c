-- The records of a sheet, one by one.
use Rattle.std.specs.Prelude.{ℕ, List, [], ◌∷◌, ◌++◌, length}
use Rattle.std.proofs.Math.Option.{none}
use Rattle.codec.specs.Codec.{Form, big}
use Rattle.ast.specs.Tree as tree
use Rattle.ast.specs.Tree.{Nodes, KeyframeTime, Leaf, leaf, box, single, holding, width}
use Rattle.sheet.specs.Sheet.{Node, Forest, node_form_of, split_node}

-- the nodes in a container as their count alone
abbrev pub counted : Form Forest
counted = record { write = λ ns. (big 2).write (width ns); read = λ bs. none }

-- the record of a node, its frames' numbers of w bytes each
abbrev pub record_as : ℕ → ℕ → Node → List ℕ
record_as w n x = (node_form_of w n counted).write x

abbrev pub record_of : ℕ → Node → List ℕ
record_of n x = record_as 4 n x

-- "one record a node, preorder"
abbrev pub records_of : ℕ → Forest → List (List ℕ)
records_of n Nodes.none = []
records_of n (leaf p l rest) = record_of n (single p l) ∷ records_of n rest
records_of n (box p b ns rest) = record_of n (holding p b ns) ∷ records_of n ns ++ records_of n rest

-- the nodes themselves in that order, those in containers too
abbrev pub nodes_of : Forest → List Node
nodes_of Nodes.none = []
nodes_of (leaf p l rest) = single p l ∷ nodes_of rest
nodes_of (box p b ns rest) = holding p b ns ∷ nodes_of ns ++ nodes_of rest

-- "the kind (position in `MotionNode`, tween 0 to at 14)" that a node's record begins with
abbrev pub kind_of : Node → ℕ
kind_of x = (split_node 0 counted x).0

-- the entries of a keyframe track
abbrev pub leaf_entries : Leaf KeyframeTime → ℕ
leaf_entries (tree.tween x) = 0
leaf_entries (tree.spring x) = 0
leaf_entries (tree.keyframes x) = length x.frames
leaf_entries (tree.path x) = 0
leaf_entries (tree.morph x) = 0
leaf_entries (tree.draw x) = 0
leaf_entries (tree.color x) = 0
leaf_entries (tree.waveform x) = 0
leaf_entries (tree.preset x) = 0
leaf_entries (tree.label x) = 0
leaf_entries (tree.at x) = 0

abbrev pub entries_of : Node → ℕ
entries_of (single p l) = leaf_entries l
entries_of (holding p b ns) = 0

-- the head, of ordinal 0, then the nodes' records
unfoldable pub all_records : ℕ → Forest → List (List ℕ)
all_records n ns = (big 2).write (width ns) ∷ records_of n ns
