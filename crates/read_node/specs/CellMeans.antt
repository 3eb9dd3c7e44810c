-- What is kept of a node's fields, whatever its kind: one cell for each field of its struct. Contracts cite these.
use Rattle.std.specs.Prelude.{ℕ, ◌*◌, ◌-◌, ◌≤◌, Bool, List, [], ◌∷◌, ◌≡◌, length, Some, None, Option as Optional, Float}
use Prim.Native.String.{String}
use Rattle.std.proofs.Math.Option.{Option, none, some}
use Rattle.std.proofs.Math.ListN.{get_elem?}
use Rattle.text.specs.Bytes.{bytes}
use Rattle.error.specs.declared.Refusal.{Refusal}
use Rattle.ast.specs.declared.EasingSpec.{EasingSpec}
use Rattle.ast.specs.declared.LoopSpec.{LoopSpec}
use Rattle.ast.specs.declared.DampingMode.{DampingMode}
use Rattle.sheet_encode.specs.Means as of
use Rattle.ast.specs.Tree.{ValueExpr}
use Rattle.sheet.specs.Sheet.{value_form}
use Rattle.grammar.specs.Values.{parse_value}
use Rattle.grammar.specs.Rule.{Rule, refused}
use Rattle.grammar.specs.Fields as fields
use Rattle.grammar.specs.Fields.{Table, Fields, Content, last_number, last_truth, last_easing, last_loop_mode}
use Rattle.grammar.specs.Fields.{last_value, last_range, last_damping}
use Rattle.read_cursor.specs.WordMeans.{at_of}
use Rattle.read_cursor.specs.Means.{Ready, run, Took}
use Rattle.read_cursor.specs.declared.Cursor.{Cursor}

-- a field of a kind's struct: its sort, the name it is under in the text where its value goes by that, and what it holds
pub data Cell : Type 0 where
  float : String → Optional Float → Cell
  whole : String → Optional ℕ → Cell
  case : String → Optional ℕ → Cell
  truth : String → Optional Bool → Cell
  ever : String → Bool → Cell
  easing : Optional EasingSpec → Cell
  loop_mode : Optional LoopSpec → Cell
  range : Optional (Float × Float) → Cell
  damping : Optional DampingMode → Cell
  place : Optional Cursor → Cell

-- the value v stands at the cursor c, between the places lo and hi, and its text pays for its bytes
pub record ValueAt (s : List ℕ) (lo hi : ℕ) (c : Cursor) (v : ValueExpr) : Type 0 where
  pub ready : Ready s c
  pub next : Cursor
  pub took : Took 1 s c next parse_value v
  pub low : lo ≤ at_of c
  pub high : at_of next ≤ hi
  pub paid : length (value_form.write v) ≤ 64 * (at_of next - at_of c)

-- a value is kept as the cursor before it
abbrev pub PlaceSays : List ℕ → ℕ → ℕ → Optional Cursor → Option ValueExpr → Type 0
PlaceSays s lo hi None v = v ≡ none
PlaceSays s lo hi (Some c) v = (x : ValueExpr) × (v ≡ some x) × ValueAt s lo hi c x

-- it holds what the fields fs say, which stand between the places lo and hi
abbrev pub CellSays : List ℕ → ℕ → ℕ → Cell → Fields → Type 0
CellSays s lo hi (float n o) fs = (of.opt_float_of o ≡ last_number n fs) × of.PlainOptFloat o
CellSays s lo hi (whole n o) fs = of.opt_word_of o ≡ last_number n fs
CellSays s lo hi (case n o) fs = of.opt_case_of o ≡ last_number n fs
CellSays s lo hi (truth n o) fs = of.opt_bool_of o ≡ last_truth n fs
CellSays s lo hi (ever n b) fs = b ≡ fields.ever n fs
CellSays s lo hi (easing o) fs = (of.opt_easing_of o ≡ last_easing fs) × of.PlainOptEasing o
CellSays s lo hi (loop_mode o) fs = of.opt_loop_of o ≡ last_loop_mode fs
CellSays s lo hi (range o) fs = (of.opt_range_of o ≡ last_range fs) × of.PlainOptRange o
CellSays s lo hi (damping o) fs = (of.opt_damping_of o ≡ last_damping fs) × of.PlainOptDamping o
CellSays s lo hi (place o) fs = PlaceSays s lo hi o (last_value fs)

-- all of a struct do
abbrev pub AllSay : List ℕ → ℕ → ℕ → List Cell → Fields → Type 0
AllSay s lo hi [] fs = Unit {0}
AllSay s lo hi (x ∷ xs) fs = CellSays s lo hi x fs × AllSay s lo hi xs fs

-- the value of a row is taken from c to m: what held xs then holds ys
abbrev pub RowTook : List ℕ → Cursor → Cursor → List Cell → List Cell → String × Rule Content → Type 0
RowTook s c m xs ys row =
    (y : Content) × Took 1 s c m row.1 y
    × ((lo : ℕ) (fs : Fields) → lo ≤ at_of c → AllSay s lo (at_of c) xs fs → AllSay s lo (at_of m) ys ((bytes row.0, y) ∷ fs))

-- that of the row i of the table t
pub record StepTook (s : List ℕ) (c m : Cursor) (t : Table) (i : ℕ) (xs ys : List Cell) : Type 0 where
  pub by : (row : String × Rule Content) → get_elem? t i ≡ some row → RowTook s c m xs ys row

-- it is refused
pub record StepRefused (s : List ℕ) (c : Cursor) (t : Table) (i : ℕ) (r : Refusal) (q : ℕ) : Type 0 where
  pub by : (row : String × Rule Content) → get_elem? t i ≡ some row → run s c row.1 ≡ refused r q

-- fields are taken from c to m by the rule p, and xs holds what they say, the last value of each
pub record ListTook (s : List ℕ) (c m : Cursor) (p : Rule Fields) (xs : List Cell) : Type 0 where
  pub fields : Fields
  pub took : Took 0 s c m p fields
  pub say : AllSay s (at_of c) (at_of m) xs fields
