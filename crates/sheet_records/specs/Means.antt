-- A node's record alone, and what is found at an ordinal.
use Rattle.std.specs.Prelude.{ℕ, zero, suc, ◌+◌, ◌-◌, ◌≤◌, ◌<◌, cond, List, [], ◌∷◌, ◌≡◌, eqb, length, take, drop}
use Rattle.std.proofs.Math.Option.{Option, none, some}
use Rattle.std.proofs.Math.ListN.{get_elem?}
use Rattle.text.specs.Words.{is_some}
use Rattle.codec.specs.Codec.{Form, via, big}
use Rattle.ast.specs.Tree.{Nodes, box, sequence, single, holding, width}
use Rattle.sheet.specs.Sheet.{Node, Forest, node_form, decode}
use Rattle.sheet.specs.Records.{all_records, kind_of, entries_of}
use Rattle.sheet_decode.specs.Means.{Reads, passed}
use Rattle.sheet_records.specs.declared.Kind.{Kind}
use Rattle.sheet_records.specs.declared.Kind.TheVariants.{Leaf, Container}
use Rattle.sheet_records.specs.declared.RecordAt.{RecordAt}
use Rattle.sheet_records.specs.declared.RecordAt.TheVariants.{At, Nothing, NoSheet}

-- so many nodes, whatever they are
abbrev pub blank : ℕ → Forest
blank zero = Nodes.none
blank (suc c) = box 0 sequence Nodes.none (blank c)

-- the nodes in a container as their count alone
abbrev pub count_form : Form Forest
count_form = via (big 2) blank width

-- "A record is the kind .., then the fields ..; nodes inside a container appear as their count"
abbrev pub record_form : ℕ → Form Node
record_form n = node_form n count_form

-- whether a node is a container, and how many nodes stand in it
abbrev pub kind_view : Node → Kind
kind_view (single p l) = Leaf
kind_view (holding p k ns) = Container (width ns)

-- what a record says of its node: whether it is a container, its kind, and its keyframe entries
abbrev pub record_view : Node → Kind × ℕ × ℕ
record_view x = (kind_view x, kind_of x, entries_of x)

-- ---- the record with an ordinal

-- what the bytes that a tree was decoded of have at an ordinal: 20, "bytes are no sheet for this text"; 31, "no such record"; the record
abbrev pub record_in : ℕ → ℕ → Option Forest → Option (Option (List ℕ))
record_in n ordinal none = none
record_in n ordinal (some ns) = some (get_elem? (all_records n ns) ordinal)

-- the bytes of what is found
abbrev pub bytes_at : RecordAt → List ℕ → Option (Option (List ℕ))
bytes_at NoSheet s = none
bytes_at Nothing s = some none
bytes_at (At start size) s = some (some (take size (drop start s)))

-- ---- a walk that looks for it

-- of records that stand one behind the other: where the one with an ordinal begins, or where they end if there is none
unfoldable pub begins : ℕ → List (List ℕ) → ℕ
begins zero rs = 0
begins (suc k) [] = 0
begins (suc k) (r ∷ rs) = length r + begins k rs

-- a walk over the sheet of ns, with so many records left to be passed before the one with the ordinal: `from` is the place behind the last
-- one counted, and while any are left that is the walk's own place
pub record Seeks (n : ℕ) (s : List ℕ) (ns : Forest) (ordinal at left from : ℕ) : Type 0 where
  pub last : ℕ
  pub listed : last < length (all_records n ns)
  pub count : suc last + left ≡ ordinal
  pub behind : from ≡ begins (suc last) (all_records n ns)
  pub here : at ≤ length s → 0 < left → at ≡ from

-- a record is passed: while any are left there is one less, and `from` is the place behind it
abbrev pub pass : ℕ → ℕ → ℕ → ℕ × ℕ
pass next left from = cond (eqb left 0) (left, from) (left - 1, next)

-- a walk over what a form reads; in a sheet, if it was looking for a record before, it is behind
pub record Walks {A : Type 0} (c : Form A) (n : ℕ) (s : List ℕ) (at left from next left' from' : ℕ) : Type 0 where
  pub reads : Reads c passed s at tt next
  pub seeks : (ns : Forest) (ordinal : ℕ) → decode n s ≡ some ns → Seeks n s ns ordinal at left from → Seeks n s ns ordinal next left' from'

-- a walk over all the bytes: it ends with them just if they are a sheet, and then it has looked for a node's record
pub record WalksAll (n : ℕ) (s : List ℕ) (ordinal next left from : ℕ) : Type 0 where
  pub decides : eqb next (length s) ≡ is_some (decode n s)
  pub seeks : (ns : Forest) → decode n s ≡ some ns → 0 < ordinal → Seeks n s ns ordinal next left from
