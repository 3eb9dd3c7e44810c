-- What the answers of functions that write into the sheet mean. Contracts cite these.
use Rattle.std.specs.Prelude.{ℕ, ◌+◌, ◌*◌, ◌-◌, ◌^◌, ◌≤◌, ◌<◌, List, ◌≡◌, length}
use Rattle.text.specs.Limits.{text_limit}
use Rattle.codec.specs.Codec.{each_out}
use Rattle.number.specs.Number.{bits}
use Rattle.ast.specs.Tree.{ValueExpr, scalar, array, component_count}
use Rattle.ast.specs.declared.ValueExpr as values
use Rattle.ast.specs.declared.ValueExpr.TheVariants.{Scalar, Array}
use Rattle.sheet.specs.Sheet.{word, value_form}
use Rattle.sheet_encode.specs.Means.{Plain}
use Rattle.sheet_encode.specs.WriteMeans.{Writes}
use Rattle.grammar.specs.Rule.{Rule, refused, leave, give, ◌>>=◌, ◌>>◌}
use Rattle.grammar.specs.Values.{array_items, parse_value}
use Rattle.read_cursor.specs.WordMeans.{at_of}
use Rattle.read_cursor.specs.Means.{run, Took}
use Rattle.read_cursor.specs.declared.Cursor.{Cursor}
use Rattle.read_arrays.specs.declared.ItemsRead.{ItemsRead}
use Rattle.read_arrays.specs.declared.ItemsRead.TheVariants as items
use Rattle.read_arrays.specs.declared.HeldRead.{HeldRead}
use Rattle.read_arrays.specs.declared.HeldRead.TheVariants as held
use Rattle.read_arrays.specs.declared.ValueRead.{ValueRead}
use Rattle.read_arrays.specs.declared.ValueRead.TheVariants as value

-- a text and a place in the sheet that leave room for every sum
pub record Room (s : List ℕ) (out : ℕ) : Type 0 where
  pub short : length s ≤ text_limit
  pub low : out < 2 ^ 30

-- the same for what stands inside a record
pub record Wide (s : List ℕ) (out : ℕ) : Type 0 where
  pub short : length s ≤ text_limit
  pub low : out < 2 ^ 31

-- the same for the elements of an array inside a record
pub record Wider (s : List ℕ) (out : ℕ) : Type 0 where
  pub short : length s ≤ text_limit
  pub low : out < 2 ^ 32

-- the rule p takes a value from c to m, at least e bytes on, and its bytes are written from out to q: b becomes a.
-- A byte of the text pays for 64 of the sheet.
pub record Went {A : Type 0} (e : ℕ) (s b a : List ℕ) (c m : Cursor) (out q : ℕ) (p : Rule A) (bytes : A → List ℕ) : Type 0 where
  pub value : A
  pub took : Took e s c m p value
  pub writes : Writes b out (bytes value) a q
  pub paid : q ≤ out + 64 * (at_of m - at_of c)

-- the elements of an array
abbrev pub ItemsMeans : List ℕ → List ℕ → List ℕ → Cursor → ℕ → ItemsRead → Type 0
ItemsMeans s b a c out (items.Is n q m) = (w : Went 0 s b a c m out q array_items (each_out word.write)) × (n ≡ length w.value)
ItemsMeans s b a c out (items.Refused r q) = run s c array_items ≡ refused r q

-- an array behind its opener, with its closer
abbrev pub array_behind : Rule ValueExpr
array_behind = array_items >>= λ xs. leave 93 >> give (array xs)

-- up to 3 bytes more than the text pays for: the case and the count
pub record ArrayWent (s b a : List ℕ) (c m : Cursor) (out n q : ℕ) : Type 0 where
  pub xs : List ℕ
  pub took : Took 0 s c m array_behind (array xs)
  pub count : n ≡ length xs
  pub writes : Writes b out (value_form.write (array xs)) a q
  pub paid : q ≤ out + 3 + 64 * (at_of m - at_of c)

abbrev pub ArrayMeans : List ℕ → List ℕ → List ℕ → Cursor → ℕ → ItemsRead → Type 0
ArrayMeans s b a c out (items.Is n q m) = ArrayWent s b a c m out n q
ArrayMeans s b a c out (items.Refused r q) = run s c array_behind ≡ refused r q

-- v holds a value: a scalar's float, and nothing is written; or an array's count, and the array is written from out to q: b becomes a
abbrev pub Held : List ℕ → List ℕ → ℕ → ℕ → ValueExpr → values.ValueExpr → Type 0
Held b a out q value (Scalar x) = (value ≡ scalar (bits x)) × Plain x × (a ≡ b)
Held b a out q value (Array n) = (n ≡ component_count value) × Writes b out (value_form.write value) a q

pub record HeldWent (s b a : List ℕ) (c m : Cursor) (out q : ℕ) (v : values.ValueExpr) : Type 0 where
  pub value : ValueExpr
  pub took : Took 1 s c m parse_value value
  pub held : Held b a out q value v
  pub paid : q ≤ out + 64 * (at_of m - at_of c)

abbrev pub HeldMeans : List ℕ → List ℕ → List ℕ → Cursor → ℕ → HeldRead → Type 0
HeldMeans s b a c out (held.Is v q m) = HeldWent s b a c m out q v
HeldMeans s b a c out (held.Refused r q) = run s c parse_value ≡ refused r q

abbrev pub ValueMeans : List ℕ → List ℕ → List ℕ → Cursor → ℕ → ValueRead → Type 0
ValueMeans s b a c out (value.Is q m) = Went 1 s b a c m out q parse_value value_form.write
ValueMeans s b a c out (value.Refused r q) = run s c parse_value ≡ refused r q
