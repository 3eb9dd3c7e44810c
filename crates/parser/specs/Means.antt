-- What the parts of reading answer. Contracts cite these.
use Rattle.std.specs.Prelude.{ℕ, suc, ◌-◌, Bool, true, cond, List, ◌++◌, ◌≡◌, ltb, length, take, replicate}
use Rattle.std.proofs.Math.Option.{none}
use Rattle.number.specs.Time.{Key}
use Rattle.token.specs.Token.{tokens_from}
use Rattle.token.specs.Split.{split}
use Rattle.token.specs.Means.{answer_of}
use Rattle.token.specs.declared.SplitAnswer.TheVariants as told
use Rattle.ast.specs.Tree.{Nodes, map_times, records}
use Rattle.sheet.specs.Sheet.{encode}
use Rattle.sheet_encode.specs.WriteMeans.{Writes}
use Rattle.grammar.specs.Grammar.{stored, animato_input}
use Rattle.error.specs.declared.Refusal.TheVariants.{SheetTooShort}
use Rattle.error.specs.declared.ReadAnswer.{ReadAnswer}
use Rattle.error.specs.declared.ReadAnswer.TheVariants.{Accepted, Refused}
use Rattle.parser.specs.declared.Input.{Input}
use Rattle.reading.specs.Reading.{Parsed, tree, wrong, finished}

-- ---- the grammar: "then 6 to 12 at the first one the Rust meets, then 13"

-- what it makes of the tokens from the text's start on
abbrev pub tree_of : List ℕ → Parsed
tree_of t = finished (animato_input (record { leftover = none; rounded = 0; bound = suc (length t) }) (tokens_from t 0))

-- a tree, whose encoding of n bytes is written over the sheet b, and which has k records and j rounded numbers
pub record Encoded (t b a : List ℕ) (n k j : ℕ) : Type 0 where
  pub nodes : Nodes Key
  pub is : tree_of t ≡ tree nodes j
  pub writes : Writes b 0 (encode (length t) (map_times stored nodes)) a n
  pub count : k ≡ records nodes

abbrev pub TreeMeans : (t b a : List ℕ) → ReadAnswer → Type 0
TreeMeans t b a (Accepted n k j) = Encoded t b a n k j
TreeMeans t b a (Refused r p) = tree_of t ≡ wrong r p

-- ---- whether the text rules allow the text

abbrev pub input_of : ReadAnswer → Bool → Input
input_of a whole = record { answer = a; whole = whole }

-- where the text was accepted to its end, the text rules allow it
abbrev pub Allowed : List ℕ → Bool → Type 0
Allowed t whole = whole ≡ true → answer_of (split t) ≡ told.Accepted

pub record InputMeans (t b a : List ℕ) (r : Input) : Type 0 where
  pub tree : TreeMeans t b a r.answer
  pub allowed : Allowed t r.whole

-- ---- the sheet: "then 14", "zero past its length, and all zero on a refusal"

-- the answer and the sheet afterwards, where a is the answer so far and bs the sheet
abbrev pub settled : ReadAnswer → List ℕ → ReadAnswer × List ℕ
settled (Refused r p) bs = (Refused r p, replicate (length bs) 0)
settled (Accepted n k j) bs =
    cond (ltb (length bs) n) (Refused SheetTooShort 0, replicate (length bs) 0) (Accepted n k j, take n bs ++ replicate (length bs - n) 0)
