-- What the code's answers stand for.
use Rattle.std.specs.Prelude.{ℕ, cond, List, ltb, length}
use Rattle.std.proofs.Math.Option.{Option, none, some}
use Rattle.text.specs.Limits.{text_limit}
use Rattle.error.specs.declared.Refusal.TheVariants.{TextTooLong, BadForm}
use Rattle.sheet.specs.Sheet.{decode}
use Rattle.sheet.specs.Opening.{foreign_from, Opened, opened, shut, decoded}
use Rattle.sheet_refusals.specs.declared.Opening.{Opening}
use Rattle.sheet_refusals.specs.declared.Opening.TheVariants.{Open, Shut}

-- the answer to a sheet, its tree left out
abbrev pub answer_of : Opened → Opening
answer_of (opened ns) = Open
answer_of (shut refusal place) = Shut refusal place

-- the first of two answers that is shut
abbrev pub earlier : Opening → Opening → Opening
earlier Open o = o
earlier (Shut refusal place) o = Shut refusal place

abbrev pub foreign_answer : Option ℕ → Opening
foreign_answer none = Open
foreign_answer (some i) = Shut BadForm i

-- the answer to a text alone: 1 and 2
unfoldable pub text_answer : List ℕ → Opening
text_answer t = cond (ltb text_limit (length t)) (Shut TextTooLong 0) (foreign_answer (foreign_from 0 t))

-- the answer to bytes for a text of a length: 20
unfoldable pub bytes_answer : ℕ → List ℕ → Opening
bytes_answer n bs = answer_of (decoded (decode n bs))
