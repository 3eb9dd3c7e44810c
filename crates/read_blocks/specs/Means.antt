-- What the answers for nodes mean: what the grammar's rules take, and the bytes written, in the sheet's own form. Contracts cite these.
use Rattle.std.specs.Prelude.{ℕ, ◌+◌, ◌*◌, ◌-◌, ◌≤◌, ◌<◌, cond, List, [], ◌∷◌, ◌++◌, ◌≡◌, ltb, length}
use Prim.Native.String.{String}
use Rattle.std.proofs.Math.Option.{some}
use Rattle.std.proofs.Math.ListN.{get_elem?}
use Rattle.text.specs.Limits.{text_limit}
use Rattle.codec.specs.Codec.{big, opt}
use Rattle.number.specs.Time.{Key}
use Rattle.ast.specs.Tree.{Leaf, Container, sequence, parallel, group, stagger, Nodes, MotionNode, single, holding, push}
use Rattle.ast.specs.Tree.{width, records, map_leaf, map_times}
use Rattle.sheet.specs.Sheet.{Node, word, pattern_form, node_form, forest, inner}
use Rattle.sheet_encode.specs.WriteMeans.{Writes}
use Rattle.grammar.specs.Rule.{Rule, refused, give, ◌>>=◌, the, more, done, repeat}
use Rattle.grammar.specs.Grammar.{stored, leaves, containers, a_leaf, a_container, beginning, node_by, nodes_step, block}
use Rattle.words.specs.declared.List.TheVariants as list
use Rattle.words.specs.ListMeans.{list_of}
use Rattle.read_cursor.specs.WordMeans.{at_of}
use Rattle.read_cursor.specs.Means.{Ready, run, Took}
use Rattle.read_cursor.specs.declared.Cursor.{Cursor}
use Rattle.read_arrays.specs.Means.{Went}
use Rattle.read_node.specs.Means.{leaf_kind, leaf_bytes, LeafMeans}
use Rattle.read_node.specs.declared.NodeRead.{NodeRead}
use Rattle.read_node.specs.declared.NodeRead.TheVariants as head
use Rattle.read_blocks.specs.declared.Keyword.{Keyword}
use Rattle.read_blocks.specs.declared.Keyword.TheVariants as keyword
use Rattle.read_blocks.specs.declared.Begun.{Begun}
use Rattle.read_blocks.specs.declared.Begun.TheVariants as begun
use Rattle.read_blocks.specs.declared.BraceRead.{BraceRead}
use Rattle.read_blocks.specs.declared.BraceRead.TheVariants as brace
use Rattle.read_blocks.specs.declared.ParsedNode.{ParsedNode}
use Rattle.read_blocks.specs.declared.ParsedNode.TheVariants as node
use Rattle.read_blocks.specs.declared.ParsedNodes.{ParsedNodes}
use Rattle.read_blocks.specs.declared.ParsedNodes.TheVariants as nodes
use Rattle.read_blocks.specs.declared.Siblings.{Siblings}
use Rattle.read_blocks.specs.declared.NodesNext.{NodesNext}
use Rattle.read_blocks.specs.declared.NodesNext.TheVariants as turn

-- ---- the keyword

-- the words that begin a node
abbrev pub node_words : List (List ℕ)
node_words = list_of list.Nodes

abbrev pub KeywordMeans : List ℕ → Keyword → Type 0
KeywordMeans w (keyword.Leaf i) = (row : String × Rule (Leaf Key)) × (get_elem? leaves i ≡ some row) × (beginning w ≡ a_leaf row.1)
KeywordMeans w (keyword.Container i) =
    (row : String × Rule Container) × (get_elem? containers i ≡ some row) × (beginning w ≡ a_container row.1)

-- ---- a leaf by the rule at a place of the table

pub record LeafAtMeans (s b a : List ℕ) (c : Cursor) (out i : ℕ) (r : NodeRead) : Type 0 where
  pub by : (row : String × Rule (Leaf Key)) → get_elem? leaves i ≡ some row → LeafMeans s b a c out row.1 r

-- ---- the beginning of a node, whatever the rule for a container's block

-- a node's rule, for each rule for a container's block
abbrev pub NodeRule : Type 0
NodeRule = Rule (Nodes Key) → Rule (MotionNode Key)

-- behind the keyword w, which begins at `start`
abbrev pub behind_word : ℕ → List ℕ → NodeRule
behind_word start w blk = node_by blk start (beginning w)

-- the kind of the leaf, and of the container, at a place of its table
abbrev pub leaf_kind_at : ℕ → ℕ
leaf_kind_at i = cond (ltb i 3) i (i + 4)

abbrev pub container_kind_at : ℕ → ℕ
container_kind_at i = i + 3

-- what a record begins with: its kind, and the start of its node's keyword
abbrev pub front_bytes : ℕ → ℕ → List ℕ
front_bytes kind start = kind ∷ (big 2).write start

-- the node is a leaf, from c to m, at least e bytes on, and its record is written
pub record LeafBegun (e : ℕ) (s b a : List ℕ) (c m : Cursor) (out q : ℕ) (p : NodeRule) : Type 0 where
  pub start : ℕ
  pub value : Leaf Key
  pub took : (blk : Rule (Nodes Key)) → Took e s c m (p blk) (single start value)
  pub low : at_of c + e ≤ at_of m
  pub writes : Writes b out (front_bytes (leaf_kind value) start ++ leaf_bytes (length s) value) a q
  pub paid : q + 64 * e ≤ out + 3 + 64 * (at_of m - at_of c)

-- the node is the container of row i, whose head is to follow at m; the front of its record is written up to q
pub record ContainerBegun (e : ℕ) (s b a : List ℕ) (c m : Cursor) (out q i : ℕ) (p : NodeRule) : Type 0 where
  pub row : String × Rule Container
  pub found : get_elem? containers i ≡ some row
  pub start : ℕ
  pub is : (blk : Rule (Nodes Key)) → run s c (p blk) ≡ run s m (node_by blk start (a_container row.1))
  pub low : at_of c + e ≤ at_of m
  pub ready : Ready s m
  pub writes : Writes b out (front_bytes (container_kind_at i) start) a q

abbrev pub BegunMeans : (e : ℕ) (s b a : List ℕ) → Cursor → ℕ → NodeRule → Begun → Type 0
BegunMeans e s b a c out p (begun.Leaf q m) = LeafBegun e s b a c m out q p
BegunMeans e s b a c out p (begun.Container i q m) = ContainerBegun e s b a c m out q i p
BegunMeans e s b a c out p (begun.Refused r q) = (blk : Rule (Nodes Key)) → run s c (p blk) ≡ refused r q

-- ---- what stands before a container's block

-- the kind of a container: its "position in `MotionNode`"
abbrev pub container_kind : Container → ℕ
container_kind sequence = 3
container_kind parallel = 4
container_kind (group mode) = 5
container_kind (stagger pattern delay) = 6

-- what stands in a container's record behind its start, the count of the nodes in it left out
abbrev pub head_bytes : Container → List ℕ
head_bytes sequence = []
head_bytes parallel = []
head_bytes (group mode) = mode ∷ []
head_bytes (stagger pattern delay) = (opt pattern_form).write pattern ++ (opt word).write delay

-- the rule p takes a container's head from c to m, which is written from out to q, at most 32 bytes
pub record HeadWent (s b a : List ℕ) (c m : Cursor) (out q : ℕ) (p : Rule Container) : Type 0 where
  pub value : Container
  pub took : Took 0 s c m p value
  pub writes : Writes b out (head_bytes value) a q
  pub small : q ≤ out + 32

abbrev pub HeadMeans : (s b a : List ℕ) → Cursor → ℕ → Rule Container → NodeRead → Type 0
HeadMeans s b a c out p (head.Is q m) = HeadWent s b a c m out q p
HeadMeans s b a c out p (head.Refused r q) = run s c p ≡ refused r q

-- the `{` of a block, d containers more being allowed
abbrev pub BraceMeans : List ℕ → Cursor → ℕ → BraceRead → Type 0
BraceMeans s c d (brace.Is m) = Took 1 s c m (the "{") tt × (0 < d)
BraceMeans s c d (brace.Refused r q) = run s c (block d) ≡ refused r q

-- ---- places in the sheet that the text up to the cursor pays for: a byte pays for 64

-- of a node, the head record left out
pub record Reached (s : List ℕ) (c : Cursor) (out : ℕ) : Type 0 where
  pub short : length s ≤ text_limit
  pub low : out ≤ 2 + 64 * at_of c

-- of a container's head, its keyword taken and the front of its record written
pub record Headed (s : List ℕ) (c : Cursor) (out : ℕ) : Type 0 where
  pub short : length s ≤ text_limit
  pub low : out + 59 ≤ 64 * at_of c

-- of the count of the nodes in a block
pub record Counted (s : List ℕ) (c : Cursor) (count : ℕ) : Type 0 where
  pub short : length s ≤ text_limit
  pub low : count ≤ 64 * at_of c

-- ---- nodes

-- the sheet's node for a node of the grammar's tree
abbrev pub stored_node : MotionNode Key → Node
stored_node (single start l) = single start (map_leaf stored l)
stored_node (holding start k ns) = holding start k (map_times stored ns)

-- the bytes of a node, and of nodes, with what they hold
abbrev pub node_bytes : ℕ → ℕ → MotionNode Key → List ℕ
node_bytes n d x = (node_form n (inner n d)).write (stored_node x)

abbrev pub nodes_bytes : ℕ → ℕ → Nodes Key → List ℕ
nodes_bytes n d ns = (forest n (inner n d) (width ns)).write (map_times stored ns)

-- the rule p takes a node from c to m, at least e bytes on, which is written from out to q, with k records
pub record NodeWent (e : ℕ) (p : Rule (MotionNode Key)) (s b a : List ℕ) (c m : Cursor) (out q d k : ℕ) : Type 0 where
  pub went : Went e s b a c m out q p (node_bytes (length s) d)
  pub count : k ≡ records (push went.value Nodes.none)
  pub few : at_of c + k ≤ at_of m

abbrev pub NodeMeans : (e : ℕ) → Rule (MotionNode Key) → (s b a : List ℕ) → Cursor → ℕ → ℕ → ParsedNode → Type 0
NodeMeans e p s b a c out d (node.Is q m k) = NodeWent e p s b a c m out q d k
NodeMeans e p s b a c out d (node.Refused r q) = run s c p ≡ refused r q

-- a container's block from c to m, written from its count on up to q; with the container there are k records
pub record BlockWent (s b a : List ℕ) (c m : Cursor) (count q d k : ℕ) : Type 0 where
  pub nodes : Nodes Key
  pub took : Took 1 s c m (block d) nodes
  pub writes : Writes b count ((inner (length s) d).write (map_times stored nodes)) a q
  pub number : k ≡ records nodes + 1
  pub few : at_of c + k ≤ at_of m
  pub paid : q + 62 ≤ count + 64 * (at_of m - at_of c)

abbrev pub BlockMeans : (s b a : List ℕ) → Cursor → ℕ → ℕ → ParsedNode → Type 0
BlockMeans s b a c count d (node.Is q m k) = BlockWent s b a c m count q d k
BlockMeans s b a c count d (node.Refused r q) = run s c (block d) ≡ refused r q

-- ---- a container behind its keyword: its head, then its block

abbrev pub Held : Type 0
Held = Container × Nodes Key

abbrev pub held_by : Rule Container → ℕ → Rule Held
held_by p d = p >>= λ k. block d >>= λ ns. give (k, ns)

abbrev pub held_bytes : ℕ → ℕ → Held → List ℕ
held_bytes n d x = head_bytes x.0 ++ (inner n d).write (map_times stored x.1)

-- the rule takes a container from c to m, which is written behind the front of its record, from out to q, with k records
pub record HeldWent (p : Rule Container) (s b a : List ℕ) (c m : Cursor) (out q d k : ℕ) : Type 0 where
  pub went : Went 0 s b a c m out q (held_by p d) (held_bytes (length s) d)
  pub count : k ≡ records went.value.1 + 1
  pub few : at_of c + k ≤ at_of m

abbrev pub HeldMeans : Rule Container → (s b a : List ℕ) → Cursor → ℕ → ℕ → ParsedNode → Type 0
HeldMeans p s b a c out d (node.Is q m k) = HeldWent p s b a c m out q d k
HeldMeans p s b a c out d (node.Refused r q) = run s c (held_by p d) ≡ refused r q

-- ---- nodes up to the group's end

-- what a step asks of the nodes so far
pub record Standing (s : List ℕ) (t : Siblings) : Type 0 where
  pub ready : Ready s t.next
  pub reached : Reached s t.next t.end
  pub thin : t.width ≤ at_of t.next
  pub few : t.records ≤ at_of t.next

-- a step goes on from t to u, whatever nodes ns stand before: it makes them `grown ns`, and writes what that adds
pub record Stepped (s b a : List ℕ) (d : ℕ) (t u : Siblings) : Type 0 where
  pub grown : Nodes Key → Nodes Key
  pub took : (ns : Nodes Key) → Took 1 s t.next u.next (nodes_step (block d) ns) (more (grown ns))
  pub wide : (ns : Nodes Key) → width (grown ns) + t.width ≡ width ns + u.width
  pub count : (ns : Nodes Key) → records (grown ns) + t.records ≡ records ns + u.records
  pub thin : at_of t.next + u.width ≤ at_of u.next + t.width
  pub few : at_of t.next + u.records ≤ at_of u.next + t.records
  pub added : List ℕ
  pub bytes : (ns : Nodes Key) → nodes_bytes (length s) d (grown ns) ≡ nodes_bytes (length s) d ns ++ added
  pub writes : Writes b t.end added a u.end
  pub paid : u.end ≤ t.end + 64 * (at_of u.next - at_of t.next)

-- the list ends at t
pub record Ended (s b a : List ℕ) (d : ℕ) (t u : Siblings) : Type 0 where
  pub took : (ns : Nodes Key) → Took 0 s t.next t.next (nodes_step (block d) ns) (done ns)
  pub kept : u ≡ t
  pub same : a ≡ b

abbrev pub StepMeans : (s b a : List ℕ) → ℕ → Siblings → NodesNext → Type 0
StepMeans s b a d t (turn.More u) = Stepped s b a d t u
StepMeans s b a d t (turn.Done u) = Ended s b a d t u
StepMeans s b a d t (turn.Refused r q) = (ns : Nodes Key) → run s t.next (nodes_step (block d) ns) ≡ refused r q

abbrev pub parse_nodes : ℕ → Rule (Nodes Key)
parse_nodes d = repeat (nodes_step (block d)) Nodes.none

-- the nodes from c on, written from out on
pub record NodesWent (s b a : List ℕ) (c : Cursor) (out d : ℕ) (t : Siblings) : Type 0 where
  pub went : Went 0 s b a c t.next out t.end (parse_nodes d) (nodes_bytes (length s) d)
  pub wide : t.width ≡ width went.value
  pub count : t.records ≡ records went.value
  pub few : at_of c + t.records ≤ at_of t.next

abbrev pub NodesMeans : (s b a : List ℕ) → Cursor → ℕ → ℕ → ParsedNodes → Type 0
NodesMeans s b a c out d (nodes.Is t) = NodesWent s b a c out d t
NodesMeans s b a c out d (nodes.Refused r q) = run s c (parse_nodes d) ≡ refused r q
