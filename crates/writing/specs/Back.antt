-- 02 (f), "Give me the script back": a fresh script from a text and its sheet, into a lent buffer.
use Rattle.std.specs.Prelude.{ℕ, ◌-◌, ◌||◌, cond, List, ◌++◌, ltb, length, replicate}
use Rattle.std.proofs.Math.Option.{Option, none, some}
use Rattle.error.specs.declared.Refusal.{Refusal}
use Rattle.error.specs.declared.Refusal.TheVariants.{NotASheet, Unwritable, ScriptTooLong}
use Rattle.error.specs.declared.CheckAnswer.{CheckAnswer}
use Rattle.error.specs.declared.CheckAnswer.TheVariants as check
use Rattle.error.specs.declared.LineAnswer.{LineAnswer}
use Rattle.error.specs.declared.LineAnswer.TheVariants.{Accepted, Refused}
use Rattle.text.specs.Limits.{text_limit}
use Rattle.digits.specs.Fewest.{form}
use Rattle.ast.specs.Tree.{KeyframeTime}
use Rattle.sheet.specs.Sheet.{Forest, decode}
use Rattle.checking.specs.Checking.{checking}
use Rattle.fresh.specs.Meaning.{Sense, sense}
use Rattle.fresh.specs.Fresh.{script, has_text}

-- "refused, it is all zero"; a place that no request gives is 0
abbrev pub refusal : Refusal → ℕ → List ℕ → LineAnswer × List ℕ
refusal r p out = (Refused r p, replicate (length out) 0)

-- "then 35 if the script made by these rules exceeds 16,384 bytes or the buffer"; "After success the buffer is zero past the script"
abbrev pub fitted : List ℕ → List ℕ → LineAnswer × List ℕ
fitted out u =
    cond (ltb text_limit (length u) || ltb (length out) (length u)) (refusal ScriptTooLong 0 out)
    (Accepted (length u), u ++ replicate (length out - length u) 0)

-- "then 34 exactly if no text under 01's rules, its length limit set aside, reads to that tree": a piece of it that no text can have
abbrev pub written : List ℕ → Sense → LineAnswer × List ℕ
written out x = cond (has_text form x) (fitted out (script form x)) (refusal Unwritable 0 out)

-- what of the sheet's tree a script keeps, t being the text
abbrev pub sense_of : List ℕ → Forest → Sense
sense_of t ns = sense (λ (k : KeyframeTime). k) t ns

-- a sheet that is accepted has a tree
abbrev pub of_tree : List ℕ → List ℕ → Option Forest → LineAnswer × List ℕ
of_tree t out none = refusal NotASheet 0 out
of_tree t out (some ns) = written out (sense_of t ns)

-- "Refused: checking's numbers in checking's order, then 34 .., then 35"
abbrev pub of_verdict : List ℕ → List ℕ → List ℕ → CheckAnswer → LineAnswer × List ℕ
of_verdict t s out (check.Refused r p) = refusal r p out
of_verdict t s out check.Accepted = of_tree t out (decode (length t) s)

-- the answer, and the buffer afterwards, for a list of colours that the text and its sheet are checked under
unfoldable pub writing : ℕ → List ℕ → List ℕ → List ℕ → LineAnswer × List ℕ
writing list t s out = of_verdict t s out (checking list t s)
