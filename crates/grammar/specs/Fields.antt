-- parser.rs, "Field-list helper": lists of fields, and what such a list says.
use Rattle.std.specs.Prelude.{ℕ, Bool, true, false, ◌||◌, cond, List, [], ◌∷◌, eqb}
use Prim.Native.Char.{code}
use Prim.Native.String.{String}
use Rattle.std.proofs.Math.Option.{Option, none, some}
use Rattle.text.specs.Bytes.{bytes, same, one_of}
use Rattle.text.specs.Words.{or_else}
use Rattle.token.specs.Token.{Kind, name, number, quoted, mark, kind}
use Rattle.ast.specs.Tree.{ValueExpr, EasingSpec, LoopSpec, DampingMode}
use Rattle.grammar.specs.Rule.{Rule, Next, more, done, ◌>>=◌, ◌>>◌, give, need, if, sees_word, skip, the, word, repeat, list}
use Rattle.error.specs.declared.Refusal.TheVariants.{UnknownKeyword}

-- what a field holds: one of these
pub record Content : Type 0 where
  pub number : Option ℕ
  pub truth : Option Bool
  pub easing : Option EasingSpec
  pub loop_mode : Option LoopSpec
  pub value : Option ValueExpr
  pub damping : Option DampingMode
  pub range : Option (ℕ × ℕ)

abbrev pub a_number : ℕ → Content
a_number n = record { number = some n; truth = none; easing = none; loop_mode = none; value = none; damping = none; range = none }

abbrev pub a_truth : Bool → Content
a_truth b = record { number = none; truth = some b; easing = none; loop_mode = none; value = none; damping = none; range = none }

abbrev pub an_easing : EasingSpec → Content
an_easing e = record { number = none; truth = none; easing = some e; loop_mode = none; value = none; damping = none; range = none }

abbrev pub a_loop_mode : LoopSpec → Content
a_loop_mode m = record { number = none; truth = none; easing = none; loop_mode = some m; value = none; damping = none; range = none }

abbrev pub a_value : ValueExpr → Content
a_value v = record { number = none; truth = none; easing = none; loop_mode = none; value = some v; damping = none; range = none }

abbrev pub a_damping : DampingMode → Content
a_damping d = record { number = none; truth = none; easing = none; loop_mode = none; value = none; damping = some d; range = none }

abbrev pub a_range : ℕ × ℕ → Content
a_range r = record { number = none; truth = none; easing = none; loop_mode = none; value = none; damping = none; range = some r }

-- a field that was read: its name and what it holds
abbrev pub Entry : Type 0
Entry = List ℕ × Content

-- the fields of a list, the last one first
abbrev pub Fields : Type 0
Fields = List Entry

-- the fields that a list may have: for each its name, and the rule for what follows its `:`
abbrev pub Table : Type 0
Table = List (String × Rule Content)

-- the row of a table under a name
unfoldable pub row_of : Table → List ℕ → Option (String × Rule Content)
row_of [] w = none
row_of (f ∷ fs) w = elim (same w (bytes f.0)) [ true ↦ some f | false ↦ row_of fs w ]

-- a field's name and `:`, for its row of the table
unfoldable pub field_head : Rule (List ℕ) → Table → Rule (String × Rule Content)
field_head field_name table = do
  w ← field_name
  the ":"
  need UnknownKeyword (row_of table w)

-- what stands behind them
unfoldable pub field_value : String × Rule Content → Rule Entry
field_value f = do
  x ← f.1
  give (bytes f.0, x)

-- a field
unfoldable pub entry : Rule (List ℕ) → Table → Rule Entry
entry field_name table = do
  f ← field_head field_name table
  field_value f

-- ---- fields in parentheses

unfoldable pub pair_name : Rule (List ℕ)
pair_name = do
  w ← word
  give w.1

unfoldable pub one_pair : Table → Fields → Rule Fields
one_pair table fs = do
  f ← entry pair_name table
  give (f ∷ fs)

unfoldable pub pairs : Table → Rule Fields
pairs table = list (one_pair table) []

-- ---- parse_field_list: onto fields that were read before

-- what the next token is to such a list
pub data Item : Type 0 where
  halts : Item
  closes : Item
  passes : Item
  starts : Item

-- the group's end or a `{` ends it, and so does a `;`, which is taken; a `,` is passed
unfoldable pub item_of : Kind → Item
item_of (name w) = starts
item_of (number w) = starts
item_of (quoted n) = starts
item_of (mark b) = cond (one_of (0 ∷ bytes ")]}{") b) halts (cond (eqb b (code ",")) passes (cond (eqb b (code ";")) closes starts))

-- "`loop` is a mark of its own"
unfoldable pub field_name : Rule (List ℕ)
field_name = if (sees_word "loop") (skip >> give (bytes "loop")) pair_name

unfoldable pub one_field : Table → Fields → Rule (Next Fields)
one_field table fs = do
  f ← entry field_name table
  give (more (f ∷ fs))

abbrev pub by_item : Item → Table → Fields → Rule (Next Fields)
by_item halts table fs = give (done fs)
by_item closes table fs = skip >> give (done fs)
by_item passes table fs = skip >> give (more fs)
by_item starts table fs = one_field table fs

unfoldable pub fields_step : Table → Fields → Rule (Next Fields)
fields_step table fs l ts = by_item (item_of (kind ts)) table fs l ts

unfoldable pub parse_field_list : Table → Fields → Rule Fields
parse_field_list table fs = repeat (fields_step table) fs

-- ---- 01: "a repeated field's last value wins"

unfoldable pub last : {A : Type 0} → (Entry → Option A) → Fields → Option A
last f [] = none
last f (e ∷ es) = or_else (f e) (last f es)

abbrev pub called : {A : Type 0} → String → (Content → Option A) → Entry → Option A
called s f e = cond (same e.0 (bytes s)) (f e.1) none

abbrev pub last_number : String → Fields → Option ℕ
last_number s fs = last (called s (λ c. c.number)) fs

abbrev pub last_truth : String → Fields → Option Bool
last_truth s fs = last (called s (λ c. c.truth)) fs

abbrev pub last_easing : Fields → Option EasingSpec
last_easing fs = last (λ e. e.1.easing) fs

abbrev pub last_loop_mode : Fields → Option LoopSpec
last_loop_mode fs = last (λ e. e.1.loop_mode) fs

abbrev pub last_value : Fields → Option ValueExpr
last_value fs = last (λ e. e.1.value) fs

abbrev pub last_damping : Fields → Option DampingMode
last_damping fs = last (λ e. e.1.damping) fs

abbrev pub last_range : Fields → Option (ℕ × ℕ)
last_range fs = last (λ e. e.1.range) fs

abbrev pub is_true : Option Bool → Bool
is_true none = false
is_true (some b) = b

-- "but `reverse: false` never resets an earlier `reverse: true`"
unfoldable pub ever : String → Fields → Bool
ever s [] = false
ever s (e ∷ es) = is_true (called s (λ c. c.truth) e) || ever s es
