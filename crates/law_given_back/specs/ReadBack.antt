-- 02 (f), the two laws on writing: reading the fresh script gives the same tree, and 34 is exact.
use Rattle.std.specs.Prelude.{ℕ, List, ◌≡◌, length, take, replicate}
use Rattle.std.proofs.Math.Option.{some}
use Rattle.number.specs.Time.{Key}
use Rattle.ast.specs.Tree.{Nodes}
use Rattle.sheet.specs.Sheet.{Forest, decode}
use Rattle.grammar.specs.Grammar.{stored}
use Rattle.reading.specs.Reading.{Parsed, parse}
use Rattle.checking.specs.Checking.{checking}
use Rattle.error.specs.declared.Refusal.TheVariants.{Unwritable}
use Rattle.error.specs.declared.CheckAnswer.TheVariants as check
use Rattle.error.specs.declared.LineAnswer.TheVariants.{Accepted, Refused}
use Rattle.law_rules.specs.Bare.{NoExponent}
use Rattle.fresh.specs.Meaning.{sense}
use Rattle.writing.specs.Back.{sense_of, writing}
use Rattle.law_given_back.specs.Given.{Given}

-- the sheet s of the text t, and the one that reading the text u gives, hold the same tree
pub record SameTree (t s u : List ℕ) : Type 0 where
  pub tree : Forest
  pub decodes : decode (length t) s ≡ some tree
  pub reads : Given u (sense_of t tree)

-- "Reading the fresh script must give the same tree: equal values bit for bit, equal names and strings, though starts may differ", for
-- every pair that writing accepts, under whichever list of colours; n is the fresh script's length, `after` the buffer that holds it
abbrev pub ReadBack : Type 0
ReadBack = (list : ℕ) (t s out : List ℕ) (n : ℕ) (after : List ℕ) → writing list t s out ≡ (Accepted n, after) → SameTree t s (take n after)

-- checking accepts t and s under a list, and "no text under 01's rules, its length limit set aside, reads to that tree"
pub record NoText (list : ℕ) (t s : List ℕ) : Type 0 where
  pub checks : checking list t s ≡ check.Accepted
  pub tree : Forest
  pub decodes : decode (length t) s ≡ some tree
  pub never : (u : List ℕ) (ms : Nodes Key) (k : ℕ) → parse u ≡ Parsed.tree ms k → sense stored u ms ≡ sense_of t tree → NoExponent u → ⊥

-- "Refused: checking's numbers in checking's order, then 34 exactly if no text .. reads to that tree", whatever the buffer
pub record Exactly34 (list : ℕ) (t s out : List ℕ) : Type 0 where
  pub only : (p : ℕ) → (writing list t s out).0 ≡ Refused Unwritable p → NoText list t s
  pub whenever : NoText list t s → writing list t s out ≡ (Refused Unwritable 0, replicate (length out) 0)
