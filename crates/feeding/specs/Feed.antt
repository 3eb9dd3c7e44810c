-- 02 (b), "A morning sheet over the whole chain": feeding.
use Rattle.std.specs.Prelude.{ℕ, ◌+◌, Bool, ◌||◌, cond, List, [], leb, length, take}
use Rattle.std.proofs.Math.Option.{Option, none, some}
use Rattle.error.specs.Refusal.{number_of}
use Rattle.error.specs.declared.Refusal.TheVariants.{TooManyScripts}
use Rattle.error.specs.declared.ReadAnswer.{ReadAnswer}
use Rattle.error.specs.declared.ReadAnswer.TheVariants as read
use Rattle.error.specs.declared.CheckAnswer.{CheckAnswer}
use Rattle.error.specs.declared.CheckAnswer.TheVariants as check
use Rattle.sheet.specs.Sheet.{Node, Forest, decode}
use Rattle.sheet.specs.Records.{nodes_of, kind_of, entries_of}
use Rattle.reading.specs.Reading.{reading}
use Rattle.checking.specs.Checking.{checking}
use Rattle.totals.specs.Totals.{first_kind_word, entries_word, script_limit, sum_of, over, scripts, added, in_word}
use Rattle.error.specs.declared.FeedAnswer.{FeedAnswer}
use Rattle.error.specs.declared.FeedAnswer.TheVariants.{Counted, Refused}

-- what is fed: a text, and the scratch and the sheet that are lent with it; 02 (g): and the list of colours that it is checked under
pub record Fed : Type 0 where
  pub list : ℕ
  pub text : List ℕ
  pub scratch : List ℕ
  pub sheet : List ℕ

abbrev pub fed : ℕ → List ℕ → List ℕ → List ℕ → Fed
fed list t scratch sheet = record { list = list; text = t; scratch = scratch; sheet = sheet }

-- ---- what a script is judged

-- what reading answers, and the scratch and the sheet then
abbrev pub read_of : Fed → ReadAnswer × List ℕ × List ℕ
read_of x = reading x.text x.scratch x.sheet

-- "A script counts as refused if reading or checking refuses it"; checking gets the sheet up to the length that reading gave
abbrev pub when_read : ℕ → List ℕ → ReadAnswer × List ℕ × List ℕ → CheckAnswer
when_read list t (read.Accepted n c j, words, s) = checking list t (take n s)
when_read list t (read.Refused r p, words, s) = check.Refused r p

abbrev pub judgement : Fed → CheckAnswer
judgement x = when_read x.list x.text (read_of x)

-- the number that it counts under: 0 for an accepted one
abbrev pub number_in : CheckAnswer → ℕ
number_in check.Accepted = 0
number_in (check.Refused r p) = number_of r

-- ---- its node records

-- the nodes of a sheet, those in containers too
abbrev pub nodes_in : Option Forest → List Node
nodes_in none = []
nodes_in (some ns) = nodes_of ns

abbrev pub sheet_nodes : List ℕ → ReadAnswer × List ℕ × List ℕ → List Node
sheet_nodes t (read.Accepted n c j, words, s) = nodes_in (decode (length t) (take n s))
sheet_nodes t (read.Refused r p, words, s) = []

-- "Records and entries count in accepted scripts only"
abbrev pub if_accepted : CheckAnswer → List Node → List Node
if_accepted check.Accepted xs = xs
if_accepted (check.Refused r p) xs = []

abbrev pub nodes : Fed → List Node
nodes x = if_accepted (judgement x) (sheet_nodes x.text (read_of x))

-- ---- what it adds to word i

-- a node: 1 in the word of its kind, and its entries in the last word
abbrev pub node_figure : ℕ → Node → ℕ
node_figure i x = in_word (first_kind_word + kind_of x) 1 i + in_word entries_word (entries_of x) i

-- a script: 1 in the word of its number, and what its nodes add
abbrev pub figure : ℕ → Fed → ℕ
figure i x = in_word (number_in (judgement x)) 1 i + sum_of (node_figure i) (nodes x)

-- ---- the operation

-- "a 4,097th script or totals with a figure above 268,431,360"
abbrev pub full : List ℕ → Bool
full ws = over ws || leb script_limit (scripts ws)

-- the answer, and the totals, the scratch and the sheet afterwards; "33 before all else .., the totals unchanged"
unfoldable pub feeding : List ℕ → Fed → FeedAnswer × List ℕ × List ℕ × List ℕ
feeding ws x =
    cond (full ws) (Refused TooManyScripts 0, ws, x.scratch, x.sheet)
    (Counted (judgement x), added (λ i. figure i x) ws, (read_of x).1, (read_of x).2)
