-- What the answers of the code mean. Contracts cite these, and no reader needs to believe it.
use Rattle.std.specs.Prelude.{ℕ, ◌+◌, ◌-◌, ◌≤◌, Bool, List, ◌≡◌, length, get_or, take}
use Rattle.std.proofs.Math.Option.{some}
use Rattle.std.proofs.Math.ListN.{get_elem?}
use Rattle.text.specs.Bytes.{part}
use Rattle.number.specs.Time.{Key}
use Rattle.text.specs.Words.{is_some, find}
use Rattle.token.specs.Token.{tokens_from}
use Rattle.ast.specs.Tree.{Nodes, map_times}
use Rattle.sheet_encode.specs.WriteMeans.{Writes}
use Rattle.grammar.specs.Rule.{refused, inside}
use Rattle.grammar.specs.Grammar.{stored, animato_input}
use Rattle.read_cursor.specs.WordMeans.{at_of}
use Rattle.read_cursor.specs.Means.{run, Took, spelled}
use Rattle.read_cursor.specs.declared.Cursor.{Cursor}
use Rattle.sheet.specs.Sheet.{encode}
use Rattle.books.specs.Book as book
use Rattle.book.specs.declared.Body.{Body}
use Rattle.book.specs.declared.BodyRead.{BodyRead}
use Rattle.book.specs.declared.BodyRead.TheVariants as body
use Rattle.book.specs.declared.Item.{Item}
use Rattle.book.specs.declared.ItemRead.{ItemRead}
use Rattle.book.specs.declared.ItemRead.TheVariants as item
use Rattle.book.specs.declared.BookRead.{BookRead}
use Rattle.book.specs.declared.Row as code
use Rattle.book.specs.declared.BookRead.TheVariants as read

-- ---- an item

-- a body in its braces from c on; the sheet of its nodes is written, as that of a text
pub record BodyWent (s b a : List ℕ) (c : Cursor) (x : Body) : Type 0 where
  pub nodes : Nodes Key
  pub took : Took 1 s c x.next (inside "{" book.body) (nodes, x.end)
  pub from : Cursor
  pub to : Cursor
  pub inner : Took 0 s from to animato_input nodes
  pub inside : 1 ≤ at_of from
  pub writes : Writes b 0 (encode (length s) (map_times stored nodes)) a x.bytes
  pub low : at_of c + 1 ≤ x.end
  pub high : x.end ≤ length s

abbrev pub BodyMeans : (s b a : List ℕ) → Cursor → BodyRead → Type 0
BodyMeans s b a c (body.Is x) = BodyWent s b a c x
BodyMeans s b a c (body.Refused r q) = run s c (inside "{" book.body) ≡ refused r q

-- the code's item is the item y of the grammar
pub record Same (s : List ℕ) (x : Item) (y : book.Item) : Type 0 where
  pub name : spelled s x.name ≡ y.name
  pub start : x.start ≡ y.start
  pub end : x.body.end ≡ y.end
  pub named : x.name.start + x.name.size ≤ length s
  pub low : x.start ≤ x.body.end
  pub high : x.body.end ≤ length s

pub record ItemWent (s b a : List ℕ) (c : Cursor) (x : Item) : Type 0 where
  pub value : book.Item
  pub took : Took 3 s c x.body.next book.item value
  pub same : Same s x value
  pub from : Cursor
  pub to : Cursor
  pub inner : Took 0 s from to animato_input value.nodes
  pub inside : 1 ≤ at_of from
  pub writes : Writes b 0 (encode (length s) (map_times stored value.nodes)) a x.body.bytes

abbrev pub ItemMeans : (s b a : List ℕ) → Cursor → ItemRead → Type 0
ItemMeans s b a c (item.Is x) = ItemWent s b a c x
ItemMeans s b a c (item.Refused r q) = run s c book.item ≡ refused r q

-- ---- the table of items

-- the row of an item
abbrev pub row_of : Item → code.Row
row_of x = record { name_start = x.name.start; name_size = x.name.size; start = x.start; size = x.body.end - x.start }

-- row k of a table
abbrev pub row_at : List code.Row → ℕ → code.Row
row_at table k = get_or table k (record { name_start = 0; name_size = 0; start = 0; size = 0 })

-- row k of the table is the item y
pub record Row (s : List ℕ) (table : List code.Row) (k : ℕ) (y : book.Item) : Type 0 where
  pub name : part s (row_at table k).name_start (row_at table k).name_size ≡ y.name
  pub start : (row_at table k).start ≡ y.start
  pub size : (row_at table k).size ≡ y.end - y.start

-- the rows of items
pub record Rows (s : List ℕ) (table : List code.Row) (xs : List book.Item) : Type 0 where
  pub long : length table ≡ 5461
  pub few : length xs ≤ 5461
  pub row : (k : ℕ) (y : book.Item) → get_elem? xs k ≡ some y → Row s table k y

-- the name of item k stands before it
abbrev pub Before : List ℕ → List code.Row → ℕ → Bool → Type 0
Before s table k r =
    (xs : List book.Item) → Rows s table xs → (y : book.Item) → get_elem? xs k ≡ some y
    → r ≡ is_some (find (take k (book.names xs)) 0 y.name)

-- ---- a book

-- the items xs of the book v, with their rows
pub record Held (s : List ℕ) (table : List code.Row) (v : book.Book) (n : ℕ) : Type 0 where
  pub items : List book.Item
  pub is : v ≡ book.held items
  pub rows : Rows s table items
  pub count : n ≡ length items

abbrev pub BookMeans : List ℕ → List code.Row → book.Book → BookRead → Type 0
BookMeans s table v (read.Is n) = Held s table v n
BookMeans s table v (read.Refused r q) = v ≡ book.wrong r q

-- what the grammar makes of the tokens from the text's start on
abbrev pub items_of : List ℕ → book.Book
items_of s = book.finished (book.items (book.fresh (length s)) (tokens_from s 0))
