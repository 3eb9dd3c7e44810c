-- Records and nodes that were written: words of contracts, which a reader need not believe.
use Rattle.std.specs.Prelude.{ℕ, ◌-◌, ◌≤◌, List, ◌∷◌, ◌≡◌, length, drop}
use Rattle.codec.specs.Codec.{Form, big}
use Rattle.ast.specs.Tree.{Nodes, single, holding, push}
use Rattle.sheet.specs.Sheet.{Node, Forest, node_form, forest, inner}
use Rattle.sheet_decode.specs.Means.{Reads, KindAndStart, same}
use Rattle.sheet_records.specs.Means.{record_form, kind_view}
use Rattle.sheet_records.specs.declared.Kind.{Kind}
use Rattle.sheet_records.specs.declared.Kind.TheVariants.{Container}
use Rattle.sheet_nodes.specs.Means.{Stands}
use Rattle.pieces.specs.Pieces.{Piece}
use Rattle.fresh.specs.Meaning.{leaf_sense, sense}
use Rattle.fresh.specs.Fresh.{Writer, spell, mark, leaf_word, box_word, box_body, pieces}
use Rattle.back_spelling.specs.Means.{Page, lent, put, run}
use Rattle.back_copying.specs.Means.{Written}
use Rattle.back_leaves.specs.Means.{stored, body}

-- ---- a record

-- its pieces, a container's up to its `{`
abbrev pub record_pieces : List ℕ → Node → Writer
record_pieces t (single p l) ps = spell (leaf_word (leaf_sense stored t l)) ∷ body t l ps
record_pieces t (holding p b ns) ps = spell (box_word b) ∷ box_body b (mark "{" ∷ ps)

-- the page p with these and what follows
abbrev pub record_page : List ℕ → Page → Node → List Piece → Page
record_page t p x ps = run (record_pieces t x ps) p

-- the page p has become q by the record at a place, whose kind and end are these; the buffer is the same
pub record RecordTold (t s : List ℕ) (at : ℕ) (p q : Page) (kind : Kind) (next : ℕ) : Type 0 where
  pub reads : Reads {X = (List Piece → Page) × Kind} (record_form (length t)) (λ x. (record_page t p x, kind_view x)) s at
      ((λ ps. run ps q), kind) next
  pub kept : lent q ≡ lent p

-- the same of the record whose kind and start stand before the place
abbrev pub FieldsTold : List ℕ → List ℕ → ℕ → ℕ → Page → Page → Kind → ℕ → Type 0
FieldsTold t s kind at p q k next =
    (from start : ℕ) → KindAndStart (length t) s from kind start at → RecordTold t s from p q k next

-- a container's count of nodes was read, and its `{` put
pub record Begun (s : List ℕ) (at : ℕ) (p q : Page) (kind : Kind) (next : ℕ) : Type 0 where
  pub count : ℕ
  pub holds : kind ≡ Container count
  pub reads : Reads (big 2) same s at count next
  pub puts : q ≡ put (mark "{") p

-- with its count and its `{`, the record whose kind and start stand before the place is told
abbrev pub HeadTold : List ℕ → ℕ → ℕ → Page → Page → ℕ → Type 0
HeadTold s kind at p q next =
    (t : List ℕ) (from start : ℕ) → KindAndStart (length t) s from kind start at
    → (r : Page) (k : Kind) (end : ℕ) → Begun s next q r k end → RecordTold t s from p r k end

-- ---- nodes

-- the page p has become q by the nodes ns, behind which the place `next` is
pub record Placed (t s : List ℕ) (ns : Forest) (rest : List ℕ) (p q : Page) (next : ℕ) : Type 0 where
  pub puts : Written (pieces (sense stored t ns)) p q
  pub behind : rest ≡ drop next s
  pub within : next ≤ length s

-- the same of whatever stands there in a form, at any depth of nesting; the buffer is the same
pub record Put {A : Type 0} (c : ℕ → Form A) (nodes : A → Forest) (t s : List ℕ) (at : ℕ) (p q : Page) (next : ℕ) : Type 0 where
  pub on : length s - next ≤ length s - at
  pub kept : lent q ≡ lent p
  pub is : (d : ℕ) (a : A) (h : Stands (c d) s at a) → Placed t s (nodes a) h.rest p q next

abbrev pub NodePut : List ℕ → List ℕ → ℕ → Page → Page → ℕ → Type 0
NodePut t s at p q next = Put (λ d. node_form (length t) (inner (length t) d)) (λ x. push x Nodes.none) t s at p q next

abbrev pub NodesPut : List ℕ → List ℕ → ℕ → ℕ → Page → Page → ℕ → Type 0
NodesPut t s at count p q next = Put (λ d. forest (length t) (inner (length t) d) count) (λ ns. ns) t s at p q next
