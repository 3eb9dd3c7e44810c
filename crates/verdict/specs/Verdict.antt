-- What the two calls answered, and what demand 3 says of it.
use Rattle.std.specs.Prelude.{ℕ, true, List, ◌++◌, ◌≡◌, take}
use Rattle.error.specs.Answer.{read_values, check_values}
use Rattle.error.specs.declared.ReadAnswer.{ReadAnswer}
use Rattle.error.specs.declared.ReadAnswer.TheVariants as read
use Rattle.error.specs.declared.CheckAnswer.{CheckAnswer}
use Rattle.checking.specs.Checking.{is_list, checking}
use Rattle.script.specs.Claim.{Claim}
use Rattle.verdict.specs.declared.Verdict.{Verdict}
use Rattle.verdict.specs.declared.Verdict.TheVariants.{Unread, Checked}

-- what reading answered
abbrev pub read_of : Verdict → ReadAnswer
read_of (Unread r p) = read.Refused r p
read_of (Checked n c k v) = read.Accepted n c k

-- the values of both answers
abbrev pub verdict_values : Verdict → List ℕ
verdict_values (Unread refusal place) = read_values (read.Refused refusal place)
verdict_values (Checked length records rounded answer) = read_values (read.Accepted length records rounded) ++ check_values answer

-- reading's answer with the sheet that it left, and then checking's: "Checking gets the sheet up to the length reading gave"
abbrev pub both_answers : ℕ → List ℕ → ReadAnswer × List ℕ × List ℕ → Verdict
both_answers list t (read.Refused refusal place, scratch, sheet) = Unread refusal place
both_answers list t (read.Accepted length records rounded, scratch, sheet) =
    Checked length records rounded (checking list t (take length sheet))

-- what checking answered: "Checking gets the sheet up to the length reading gave". Where reading refused, it was not called
abbrev pub Answered : ℕ → List ℕ → List ℕ → Verdict → Type 0
Answered list t s (Unread r p) = Unit {0}
Answered list t s (Checked n c k v) = v ≡ checking list t (take n s)

-- demand 3, under either list, of both answers and of the sheet s that reading left; where reading refused, whatever checking might answer
abbrev pub Claims : ℕ → List ℕ → ℕ → ℕ → List ℕ → Verdict → Type 0
Claims list t words room s (Unread r p) =
    is_list list ≡ true → (v : CheckAnswer) → Claim list t words room (read.Refused r p) s v
Claims list t words room s (Checked n c k v) = is_list list ≡ true → Claim list t words room (read.Accepted n c k) s v
