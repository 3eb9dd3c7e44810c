-- The front page: what 01 and 02 promise beyond the equation of each operation with its definition, each promise with its sentence in
-- front.
-- The equations stand at the operations; crates/strip/src/lib.rt has them all. proofs/Theorems.antt proves each promise by one application.
use Rattle.std.specs.Prelude.{ℕ, suc, ◌+◌, ◌*◌, ◌-◌, ◌≤◌, ◌<◌, List, ◌++◌, ◌↔◌, ◌≡◌, T, length, take, drop, get_or}
use Rattle.text.specs.Limits.{text_limit}
use Rattle.number.specs.Time.{Key}
use Rattle.ast.specs.Tree.{Nodes, map_times}
use Rattle.sheet.specs.Sheet.{encode}
use Rattle.grammar.specs.Grammar.{stored}
use Rattle.reading.specs.Reading.{tree, parse, reading, scratch_words}
use Rattle.lining.specs.Lining.{lining}
use Rattle.lining.specs.ReadBack.{Lined}
use Rattle.script.specs.Claim.{Demand3}
use Rattle.script.specs.Output.{sheet_bytes}
use Rattle.script.specs.Table.{every, table}
use Rattle.totals.specs.Totals.{script_limit}
use Rattle.feeding.specs.Feed.{Fed}
use Rattle.law_feeds.specs.Morning.{Morning, Means}
use Rattle.law_given_back.specs.ReadBack.{ReadBack, Exactly34}
use Rattle.law_given_back.specs.Corollaries.{NeverUnwritable, AcceptedAgain, ReadsNoNoise}
use Rattle.converting.specs.Convert.{converting}
use Rattle.converting.specs.Kept.{Kept}
use Rattle.law_converted.specs.Converted.{AsWithTriangle, NeverRetired}
use Rattle.order.specs.Order.{Ring, Listing}
use Rattle.books.specs.Book.{Item, held, book}
use Rattle.books.specs.Calls.{calls}
use Rattle.books.specs.Listing.{listing}
use Rattle.planed.specs.Planing.{planing, unplaning, Plain, PlanesTo}
use Rattle.drawing.specs.Table as wave
use Rattle.law_renamed.specs.Renaming.{Renamed, Renaming}
use Rattle.law_renamed.specs.Bytewise.{Bytewise}
use Rattle.error.specs.declared.Refusal.TheVariants.{RingOfCalls, NotPlaned}
use Rattle.error.specs.declared.CheckAnswer.TheVariants as check
use Rattle.error.specs.declared.LineAnswer.TheVariants.{Accepted, Refused}
use Rattle.error.specs.declared.OrderAnswer.TheVariants as order

pub record Theorems : Type 0 where
  -- ---- 01

  -- "Demand 3 is one claim about both calls, not one for each": for every text, scratch and sheet, under either list
  pub demand_3 : Demand3
  -- "The P entries hold of the definitions themselves, gathered into one table that a lone lemma covers"
  pub shelf : T (every table)
  -- "gives reading a sheet of 49,152": no text's sheet is longer
  pub sheet-fits : (t : List ℕ) (ns : Nodes Key) (k : ℕ) → length t ≤ text_limit → parse t ≡ tree ns k
      → length (encode (length t) (map_times stored ns)) ≤ sheet_bytes
  -- ---- 02

  -- (b) "From empty totals on, every figure equals its count defined from the scripts and buffers fed and not from the stored sums"
  pub figures : (xs : List Fed) → length xs ≤ script_limit → Morning xs
  -- (b) "each as an exact fraction in lowest terms, or `none` where there was no such script or track"
  pub means : (xs : List Fed) → length xs ≤ script_limit → Means xs
  -- (c) "length, record and check byte together sum to zero modulo 256, so that the sum tells any one of these bytes changed and never two
  -- swapped": of each line that lining gives
  pub line_told : (t s : List ℕ) (i : ℕ) (out : List ℕ) (n : ℕ) (after : List ℕ)
      → lining t s i out ≡ (Accepted n, after) → Lined t s i n after
  -- (f) "Reading the fresh script must give the same tree: equal values bit for bit, equal names and strings, though starts may differ"
  pub read_back : ReadBack
  -- (f) "then 34 exactly if no text under 01's rules, its length limit set aside, reads to that tree"
  pub exactly_34 : (list : ℕ) (t s out : List ℕ) → Exactly34 list t s out
  -- so a text without exponents, with the sheet that reading gave for it, is never 34; and what is written is accepted again
  pub never_34 : NeverUnwritable
  pub accepted_again : AcceptedAgain
  -- (h) "Reading refuses `noise` as a waveform kind": no sheet that reading gives holds it
  pub no_noise : ReadsNoNoise
  -- (h) "triangle in its place and every other byte equal"
  pub kept : (t s : List ℕ) → (converting t s).0 ≡ check.Accepted → Kept t s (converting t s).1
  -- (h) "Converting twice equals converting once"
  pub twice : (t s : List ℕ) → converting t (converting t s).1 ≡ converting t s
  -- (h) "Checking a converted sheet answers, under either list, as the checking rules do for the tree with triangle"; never with 28
  pub as_with-triangle : AsWithTriangle
  pub never_retired : NeverRetired
  -- (i) "then 39 exactly if a ring of calls exists"
  pub rings : (t out : List ℕ) (xs : List Item) → book t ≡ held xs
      → ((listing t out).0 ≡ order.Refused RingOfCalls 0) ↔ Ring (calls t xs) (length xs)
  -- (i) "so that each stands after all it calls, the first by place among those free"
  pub listed : (t out : List ℕ) (xs : List Item) → book t ≡ held xs → (k : ℕ) (after : List ℕ)
      → listing t out ≡ (order.Listed k, after)
      → (l : List ℕ) × Listing (calls t xs) (length xs) l × (k ≡ length l) × (after ≡ l ++ drop (length l) out)
  -- (j) "the same answers, places and sheets from a scratch of 64 words"
  pub sixty_four : (t scratch scratch' sheet : List ℕ) → scratch_words ≤ length scratch → scratch_words ≤ length scratch'
      → ((reading t scratch sheet).0 ≡ (reading t scratch' sheet).0) × ((reading t scratch sheet).2 ≡ (reading t scratch' sheet).2)
  -- (k) "For every sheet, back and forth gives the same bytes"
  pub there_and_back : (t s out lent after : List ℕ) (k : ℕ) → planing t s out ≡ (Accepted k, after) → length s ≤ length lent
      → unplaning t (take k after) lent ≡ (Accepted (length s), s ++ drop (length s) lent)
  -- (k) "for every planed input the inverse takes, forth and back does"
  pub back_and_there : (t bs out lent after : List ℕ) (k : ℕ) → unplaning t bs out ≡ (Accepted k, after) → length bs ≤ length lent
      → planing t (take k after) lent ≡ (Accepted (length bs), bs ++ drop (length bs) lent)
  -- (k) "40 exactly if no sheet for that text planes to those bytes", for a text that 1 and 2 do not refuse
  pub exactly_40 : (t bs out : List ℕ) → Plain t → ((unplaning t bs out).0 ≡ Refused NotPlaned 0) ↔ (PlanesTo t bs → ⊥)
  -- (l) "no entry is smaller than the one before, and the squares of entries i and 1,024 - i sum to within 65,536 of 32,767 squared"
  pub rises : (i : ℕ) → i < 1024 → get_or wave.table i 0 ≤ get_or wave.table (suc i) 0
  pub squares : (i : ℕ) → i < 1025
      → let sum = get_or wave.table i 0 * get_or wave.table i 0 + get_or wave.table (1024 - i) 0 * get_or wave.table (1024 - i) 0 in
      (sum ≤ 32767 * 32767 + 65536) × (32767 * 32767 ≤ sum + 65536)
  -- (m) "then checking, each with the sheet reading gave it and under one list, gives both the same number and, where it refuses, the same
  -- record ordinal"
  pub renaming : Renaming
  -- (m) "if their tokens agree in order and kind and differ only in .." by the tokens' bytes
  pub bytewise : (t u : List ℕ) → Bytewise t u → Renamed t u
