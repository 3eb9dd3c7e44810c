-- What the answers of the functions mean, in terms of the grammar's rules. Contracts cite these.
use Rattle.std.specs.Prelude.{ℕ, ◌<◌, List, ◌≡◌}
use Prim.Native.String.{String}
use Rattle.std.proofs.Math.Option.{some}
use Rattle.std.proofs.Math.ListN.{get_elem?}
use Rattle.text.specs.Bytes.{bytes}
use Rattle.text.specs.Words.{default}
use Rattle.ast.specs.Tree as tree
use Rattle.sheet_encode.specs.Means.{PlainPattern, PlainOptFloat, PlainOptPattern, pattern_of, opt_float_of, opt_word_of, opt_case_of}
use Rattle.sheet_encode.specs.Means.{opt_pattern_of}
use Rattle.error.specs.declared.Refusal.{Refusal}
use Rattle.error.specs.declared.Refusal.TheVariants.{UnknownKeyword, StaggerGridIncomplete}
use Rattle.grammar.specs.Rule.{refused, Rule, ◌>>=◌, give, need}
use Rattle.grammar.specs.Fields.{Content, Fields, Table, pairs, last_number}
use Rattle.grammar.specs.Grammar.{parse_group, parse_grid_origin, grid_fields, random_fields, patterns, Opening, opening_fields, parse_stagger}
use Rattle.read_cursor.specs.Means.{run, Took}
use Rattle.read_cursor.specs.declared.Cursor.{Cursor}
use Rattle.read_values.specs.Means.{by_name, Holds}
use Rattle.read_heads.specs.declared.GroupRead.{GroupRead}
use Rattle.read_heads.specs.declared.GroupRead.TheVariants as group
use Rattle.read_heads.specs.declared.OriginRead.{OriginRead}
use Rattle.read_heads.specs.declared.OriginRead.TheVariants as origin
use Rattle.read_heads.specs.declared.GridFields.{GridFields}
use Rattle.read_heads.specs.declared.GridRead.{GridRead}
use Rattle.read_heads.specs.declared.GridRead.TheVariants as grid
use Rattle.read_heads.specs.declared.RandomFields.{RandomFields}
use Rattle.read_heads.specs.declared.RandomRead.{RandomRead}
use Rattle.read_heads.specs.declared.RandomRead.TheVariants as random
use Rattle.read_heads.specs.declared.PatternRead.{PatternRead}
use Rattle.read_heads.specs.declared.PatternRead.TheVariants as pattern
use Rattle.read_heads.specs.declared.Opening as openings
use Rattle.read_heads.specs.declared.OpeningRead.{OpeningRead}
use Rattle.read_heads.specs.declared.OpeningRead.TheVariants as opening
use Rattle.read_heads.specs.declared.StaggerRead.{StaggerRead}
use Rattle.read_heads.specs.declared.StaggerRead.TheVariants as stagger

-- ---- positions of cases

abbrev pub GroupMeans : List ℕ → Cursor → GroupRead → Type 0
GroupMeans s c (group.Is k m) = Took 1 s c m parse_group (tree.group k) × (k < 2)
GroupMeans s c (group.Refused r q) = run s c parse_group ≡ refused r q

abbrev pub OriginMeans : List ℕ → Cursor → OriginRead → Type 0
OriginMeans s c (origin.Is k m) = Took 1 s c m parse_grid_origin k × (k < 9)
OriginMeans s c (origin.Refused r q) = run s c parse_grid_origin ≡ refused r q

-- ---- fields in parentheses: `held` says which fields a value holds

-- the value of a row, onto the fields that f holds
abbrev pub TookValue : {F : Type 0} → (F → Fields → Type 0) → List ℕ → Cursor → Cursor → F → F → String × Rule Content → Type 0
TookValue held s c m f g row = (x : Content) × Took 1 s c m row.1 x × Holds held f g (bytes row.0) x

-- the value of the row i of a table
abbrev pub TookRow : {F : Type 0} → (F → Fields → Type 0) → Table → List ℕ → Cursor → Cursor → F → F → ℕ → Type 0
TookRow held t s c m f g i = (row : String × Rule Content) → get_elem? t i ≡ some row → TookValue held s c m f g row

abbrev pub RefusedRow : Table → List ℕ → Cursor → ℕ → Refusal → ℕ → Type 0
RefusedRow t s c i r q = (row : String × Rule Content) → get_elem? t i ≡ some row → run s c row.1 ≡ refused r q

-- all of the fields
abbrev pub TookRows : {F : Type 0} → (F → Fields → Type 0) → Table → List ℕ → Cursor → Cursor → F → Type 0
TookRows held t s c m g = (gs : Fields) × Took 0 s c m (pairs t) gs × held g gs

pub record GridHeld (f : GridFields) (fs : Fields) : Type 0 where
  pub cols : opt_word_of f.cols ≡ last_number "cols" fs
  pub rows : opt_word_of f.rows ≡ last_number "rows" fs
  pub origin : opt_case_of f.origin ≡ last_number "origin" fs

abbrev pub GridFieldMeans : List ℕ → Cursor → GridFields → ℕ → GridRead → Type 0
GridFieldMeans s c f i (grid.Is g m) = TookRow GridHeld grid_fields s c m f g i
GridFieldMeans s c f i (grid.Refused r q) = RefusedRow grid_fields s c i r q

abbrev pub GridMeans : List ℕ → Cursor → GridRead → Type 0
GridMeans s c (grid.Is g m) = TookRows GridHeld grid_fields s c m g
GridMeans s c (grid.Refused r q) = run s c (pairs grid_fields) ≡ refused r q

pub record RandomHeld (f : RandomFields) (fs : Fields) : Type 0 where
  pub seed : opt_word_of f.seed ≡ last_number "seed" fs
  pub min : opt_float_of f.min ≡ last_number "min" fs
  pub plain-min : PlainOptFloat f.min
  pub max : opt_float_of f.max ≡ last_number "max" fs
  pub plain-max : PlainOptFloat f.max

abbrev pub RandomFieldMeans : List ℕ → Cursor → RandomFields → ℕ → RandomRead → Type 0
RandomFieldMeans s c f i (random.Is g m) = TookRow RandomHeld random_fields s c m f g i
RandomFieldMeans s c f i (random.Refused r q) = RefusedRow random_fields s c i r q

abbrev pub RandomMeans : List ℕ → Cursor → RandomRead → Type 0
RandomMeans s c (random.Is g m) = TookRows RandomHeld random_fields s c m g
RandomMeans s c (random.Refused r q) = run s c (pairs random_fields) ≡ refused r q

-- ---- patterns

-- between the parentheses of `grid(..)`
unfoldable pub grid_inside : Rule tree.StaggerPatternSpec
grid_inside = do
  fs ← pairs grid_fields
  cols ← need StaggerGridIncomplete (last_number "cols" fs)
  rows ← need StaggerGridIncomplete (last_number "rows" fs)
  give (tree.grid cols rows (default (last_number "origin" fs) 4))

-- a pattern, at least e bytes long
abbrev pub PatternMeans : ℕ → List ℕ → Cursor → Rule tree.StaggerPatternSpec → PatternRead → Type 0
PatternMeans e s c p (pattern.Is x m) = Took e s c m p (pattern_of x) × PlainPattern x
PatternMeans e s c p (pattern.Refused r q) = run s c p ≡ refused r q

-- behind a pattern's name
abbrev pub NamedMeans : List ℕ → Cursor → ℕ → PatternRead → Type 0
NamedMeans s c i a = (row : String × Rule tree.StaggerPatternSpec) → get_elem? patterns i ≡ some row → PatternMeans 0 s c row.1 a

-- ---- stagger

abbrev pub opening_of : openings.Opening → Opening
opening_of f = (opt_pattern_of f.pattern, opt_float_of f.delay)

abbrev pub PlainOpening : openings.Opening → Type 0
PlainOpening f = PlainOptPattern f.pattern × PlainOptFloat f.delay

-- a field, onto those so far
abbrev pub one_opening : Opening → Rule Opening
one_opening f = by_name UnknownKeyword (opening_fields f)

abbrev pub OpeningMeans : List ℕ → Cursor → Rule Opening → OpeningRead → Type 0
OpeningMeans s c p (opening.Is f m) = Took 1 s c m p (opening_of f) × PlainOpening f
OpeningMeans s c p (opening.Refused r q) = run s c p ≡ refused r q

-- behind a field's name
abbrev pub ValueMeans : List ℕ → Cursor → openings.Opening → ℕ → OpeningRead → Type 0
ValueMeans s c f i a = (row : String × Rule Opening) → get_elem? (opening_fields (opening_of f)) i ≡ some row → OpeningMeans s c row.1 a

abbrev pub StaggerMeans : List ℕ → Cursor → StaggerRead → Type 0
StaggerMeans s c (stagger.Is p d m) =
    Took 0 s c m parse_stagger (tree.stagger (opt_pattern_of p) (opt_float_of d)) × PlainOptPattern p × PlainOptFloat d
StaggerMeans s c (stagger.Refused r q) = run s c parse_stagger ≡ refused r q
