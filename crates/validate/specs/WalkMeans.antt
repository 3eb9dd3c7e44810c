-- What the answers to records and of the walk over nodes mean, under a list of colours. Contracts cite these.
use Rattle.std.specs.Prelude.{ℕ, ◌+◌, ◌≤◌, List, length, Result, Some, None, Option as Optional}
use Rattle.std.proofs.Math.Option.{Option, none, some}
use Rattle.codec.specs.Codec.{Form}
use Rattle.ast.specs.Tree.{Nodes, single, holding, push, records}
use Rattle.sheet.specs.Sheet.{Node, Forest, node_form, forest, inner}
use Rattle.sheet_decode.specs.Means.{Reads, KindAndStart}
use Rattle.sheet_records.specs.Means.{record_form, kind_view}
use Rattle.sheet_records.specs.declared.Kind.{Kind}
use Rattle.colors.specs.Css.{names_of}
use Rattle.error.specs.declared.Refusal.{Refusal}
use Rattle.checking.specs.Rules.{validate_leaf, validate_container, validate_nodes}
use Rattle.node_rules.specs.Means.{fault_of}
use Rattle.validate.specs.declared.kinds.RecordCheck.{RecordCheck}
use Rattle.validate.specs.declared.nodes.Walk.{Walk}

-- ---- a record

-- the first fault of a node's own fields
abbrev pub record_fault : ℕ → List ℕ → Node → Option Refusal
record_fault list t (single p l) = validate_leaf (names_of list) t l
record_fault list t (holding p k ns) = validate_container k

abbrev pub record_view : ℕ → List ℕ → Node → Option Refusal × Kind
record_view list t x = (record_fault list t x, kind_view x)

abbrev pub check_of : Result Unit Refusal → Kind → ℕ → RecordCheck
check_of fault kind next = record { fault = fault; kind = kind; next = next }

abbrev pub check_view : RecordCheck → Option Refusal × Kind
check_view r = (fault_of r.fault, r.kind)

-- r tells of the record whose kind and start stand before the place
abbrev pub FieldsTell : ℕ → List ℕ → List ℕ → ℕ → ℕ → RecordCheck → Type 0
FieldsTell list t s kind at r =
    (from start : ℕ) → KindAndStart (length t) s from kind start at
    → Reads (record_form (length t)) (record_view list t) s from (check_view r) r.next

-- ---- nodes

abbrev pub found_of : Optional (Refusal × ℕ) → Option (Refusal × ℕ)
found_of None = none
found_of (Some found) = some found

-- the first fault of nodes, the first of ordinal i, and the ordinal of what stands behind them
abbrev pub nodes_view : ℕ → List ℕ → ℕ → Forest → Option (Refusal × ℕ) × ℕ
nodes_view list t i ns = (validate_nodes (names_of list) t i ns, i + records ns)

-- an ordinal is at most one more than its place, and than the bytes
abbrev pub Reached : List ℕ → ℕ → ℕ → Type 0
Reached s at i = (i ≤ at + 1) × (i ≤ length s + 1)

-- a walk of nodes in a form: they are there, and it tells of them, or they are not
pub record Walked {A : Type 0} (c : Form A) (nodes : A → Forest) (list : ℕ) (t s : List ℕ) (at i : ℕ) (w : Walk) : Type 0 where
  pub reads : Reads c (λ a. nodes_view list t i (nodes a)) s at (found_of w.found, w.ordinal) w.next
  pub on : Reached s w.next w.ordinal

-- inside containers of which `depth` more may follow
abbrev pub NodeWalk : ℕ → List ℕ → List ℕ → ℕ → ℕ → ℕ → Walk → Type 0
NodeWalk list t s depth at i w = Walked (node_form (length t) (inner (length t) depth)) (λ x. push x Nodes.none) list t s at i w

abbrev pub NodesWalk : ℕ → List ℕ → List ℕ → ℕ → ℕ → ℕ → ℕ → Walk → Type 0
NodesWalk list t s depth at count i w = Walked (forest (length t) (inner (length t) depth) count) (λ ns. ns) list t s at i w
