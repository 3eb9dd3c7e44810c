-- What the next field of a list is, in terms of the grammar's rules. Contracts cite these.
use Rattle.std.specs.Prelude.{ℕ, ◌+◌, ◌≤◌, ◌<◌, List, [], ◌∷◌, ◌≡◌, length}
use Prim.Native.String.{String}
use Rattle.std.proofs.Math.Option.{some}
use Rattle.std.proofs.Math.ListN.{get_elem?}
use Rattle.text.specs.Bytes.{bytes}
use Rattle.error.specs.declared.Refusal.TheVariants as cause
use Rattle.grammar.specs.Rule.{Out, got, refused, after, Rule, Next, next}
use Rattle.grammar.specs.Rule.{iterate, list_step, eat, go_on, ◌>>=◌, ◌>>◌, the, need}
use Rattle.grammar.specs.Fields as fields
use Rattle.grammar.specs.Fields.{Table, Fields, Content, row_of, field_head, field_value}
use Rattle.grammar.specs.Fields.{fields_step, one_pair}
use Rattle.read_cursor.specs.WordMeans.{at_of}
use Rattle.read_cursor.specs.Means.{Ready, notes, tokens, run, Took}
use Rattle.read_cursor.specs.declared.Cursor.{Cursor}
use Rattle.read_fields.specs.declared.Item.{Item}
use Rattle.read_fields.specs.declared.Item.TheVariants as item
use Rattle.read_fields.specs.declared.NextField.{NextField}
use Rattle.read_fields.specs.declared.NextField.TheVariants as found

abbrev pub item_is : Item → fields.Item
item_is item.Halts = fields.halts
item_is item.Closes = fields.closes
item_is item.Passes = fields.passes
item_is item.Starts = fields.starts

-- the names of a table
abbrev pub names : Table → List (List ℕ)
names [] = []
names (f ∷ fs) = bytes f.0 ∷ names fs

-- the row i of a table stands behind the cursor c, at m, at least e bytes on, by the rule p
pub record RowAt (e : ℕ) (s : List ℕ) (c : Cursor) (p : Rule (String × Rule Content)) (t : Table) (i : ℕ) (m : Cursor) : Type 0 where
  pub row : String × Rule Content
  pub is : get_elem? t i ≡ some row
  pub took : Took e s c m p row

-- behind a name
abbrev pub head_behind : List ℕ → Table → Rule (String × Rule Content)
head_behind w t = the ":" >> need cause.UnknownKeyword (row_of t w)

abbrev pub HeadMeans : List ℕ → List ℕ → Cursor → Table → NextField → Type 0
HeadMeans s w c t (found.Field i m) = RowAt 1 s c (head_behind w t) t i m
HeadMeans s w c t (found.Done m) = ⊥
HeadMeans s w c t (found.Refused r q) = run s c (head_behind w t) ≡ refused r q

abbrev pub StartMeans : List ℕ → Rule (List ℕ) → Cursor → Table → NextField → Type 0
StartMeans s p c t (found.Field i m) = RowAt 1 s c (field_head p t) t i m
StartMeans s p c t (found.Done m) = ⊥
StartMeans s p c t (found.Refused r q) = run s c (field_head p t) ≡ refused r q

-- ---- from a cursor on, with any number of steps that is enough

-- the list that has fs so far gives `out`
abbrev pub Gives : {A : Type 0} → (A → Rule (Next A)) → List ℕ → Cursor → A → Out A → Type 0
Gives step s c a out = (k : ℕ) → length s < at_of c + k → iterate step k a (notes s c) (tokens s c) ≡ out

-- the value of a row stands at m, and the list goes on behind it: if that gives `out`, so does the list from c
pub record FieldAt (s : List ℕ) (c : Cursor) (t : Table) (i : ℕ) (m : Cursor) : Type 0 where
  pub row : String × Rule Content
  pub is : get_elem? t i ≡ some row
  pub low : at_of c + 1 ≤ at_of m
  pub ready : Ready s m
  pub goes : (fs : Fields) (out : Out Fields)
      → ((k : ℕ) → length s < at_of m + k → after (run s m (field_value row)) (λ e. iterate (fields_step t) k (e ∷ fs)) ≡ out)
      → Gives (fields_step t) s c fs out

-- parse_field_list
abbrev pub FieldMeans : List ℕ → Cursor → Table → NextField → Type 0
FieldMeans s c t (found.Field i m) = FieldAt s c t i m
FieldMeans s c t (found.Done m) =
    Ready s m × (at_of c ≤ at_of m) × ((fs : Fields) → Gives (fields_step t) s c fs (got fs (notes s m) (tokens s m)))
FieldMeans s c t (found.Refused r q) = (fs : Fields) → Gives (fields_step t) s c fs (refused r q)

-- fields in parentheses: behind a field's value a `,`, and the list goes on, or none, and it ends
pub record PairAt (s : List ℕ) (c : Cursor) (t : Table) (i : ℕ) (m : Cursor) : Type 0 where
  pub row : String × Rule Content
  pub is : get_elem? t i ≡ some row
  pub low : at_of c + 1 ≤ at_of m
  pub ready : Ready s m
  pub goes : (fs : Fields) (out : Out Fields)
      → ((k : ℕ) → length s < at_of m + k
      → after (run s m (field_value row)) (λ e. eat "," >>= λ b. next (λ gs. iterate (list_step (one_pair t)) k gs) (go_on b (e ∷ fs))) ≡ out)
      → Gives (list_step (one_pair t)) s c fs out

abbrev pub PairMeans : List ℕ → Cursor → Table → NextField → Type 0
PairMeans s c t (found.Field i m) = PairAt s c t i m
PairMeans s c t (found.Done m) = (m ≡ c) × ((fs : Fields) → Gives (list_step (one_pair t)) s c fs (got fs (notes s c) (tokens s c)))
PairMeans s c t (found.Refused r q) = (fs : Fields) → Gives (list_step (one_pair t)) s c fs (refused r q)
