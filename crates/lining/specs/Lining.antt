-- 01, "Lining": the operation, with its output.
use Rattle.std.specs.Prelude.{ℕ, cond, List, ◌++◌, ltb, length, drop}
use Rattle.std.proofs.Math.Option.{Option, none, some}
use Rattle.std.proofs.Math.ListN.{get_elem?}
use Rattle.sheet.specs.Records.{all_records}
use Rattle.sheet.specs.Opening.{Opened, opened, shut, opening}
use Rattle.lining.specs.Line.{line}
use Rattle.error.specs.declared.Refusal.TheVariants.{NoSuchRecord, OutputTooShort}
use Rattle.error.specs.declared.LineAnswer.{LineAnswer}
use Rattle.error.specs.declared.LineAnswer.TheVariants.{Accepted, Refused}

-- 32, or the line at the front of the output, which past it is as it was
abbrev pub placed : ℕ → List ℕ → List ℕ → LineAnswer × List ℕ
placed i out l = cond (ltb (length out) (length l)) (Refused OutputTooShort i, out) (Accepted (length l), l ++ drop (length l) out)

-- 31, or the record's line
abbrev pub of_record : ℕ → List ℕ → Option (List ℕ) → LineAnswer × List ℕ
of_record i out none = (Refused NoSuchRecord i, out)
of_record i out (some r) = placed i out (line r)

abbrev pub of_opened : ℕ → ℕ → List ℕ → Opened → LineAnswer × List ℕ
of_opened n i out (shut r p) = (Refused r p, out)
of_opened n i out (opened ns) = of_record i out (get_elem? (all_records n ns) i)

-- "In lining: 1, 2, 20, 31, 32": the answer and the output afterwards
unfoldable pub lining : List ℕ → List ℕ → ℕ → List ℕ → LineAnswer × List ℕ
lining t sheet i out = of_opened (length t) i out (opening t sheet)
