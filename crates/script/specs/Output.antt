-- 01: what the program prints for its input.
use Rattle.std.specs.Prelude.{ℕ, zero, suc, ◌+◌, ◌/◌, ◌%◌, true, false, cond, List, [], ◌∷◌, ◌++◌, ltb, length, take, drop, replicate}
use Rattle.text.specs.Bytes.{bytes}
use Rattle.reading.specs.Reading.{reading, scratch_words}
use Rattle.checking.specs.Checking.{checking}
use Rattle.lining.specs.Lining.{lining}
use Rattle.error.specs.Refusal.{number_of}
use Rattle.error.specs.declared.Refusal.{Refusal}
use Rattle.error.specs.declared.Refusal.TheVariants.{OutputTooShort}
use Rattle.error.specs.declared.ReadAnswer.{ReadAnswer}
use Rattle.error.specs.declared.ReadAnswer.TheVariants as read
use Rattle.error.specs.declared.CheckAnswer.{CheckAnswer}
use Rattle.error.specs.declared.CheckAnswer.TheVariants as check
use Rattle.error.specs.declared.LineAnswer.{LineAnswer}
use Rattle.error.specs.declared.LineAnswer.TheVariants as line

-- a number below 10 ^ k in decimal
unfoldable pub decimal_out : ℕ → ℕ → List ℕ
decimal_out zero n = []
decimal_out (suc k) n = elim (ltb n 10) [ true ↦ (48 + n) ∷ [] | false ↦ decimal_out k (n / 10) ++ (48 + n % 10) ∷ [] ]

-- `refuse R at P`
unfoldable pub refusal : Refusal → ℕ → List ℕ
refusal r p = bytes "refuse " ++ decimal_out 10 (number_of r) ++ bytes " at " ++ decimal_out 10 p ++ 10 ∷ []

-- `accept N`
unfoldable pub accept : ℕ → List ℕ
accept n = bytes "accept " ++ decimal_out 10 n ++ 10 ∷ []

-- a line, and what follows it; "If lining refuses it prints that line and stops"
abbrev pub line_then : LineAnswer × List ℕ → (List ℕ → List ℕ) → List ℕ
line_then (line.Accepted n, out) rest = take n out ++ rest out
line_then (line.Refused r p, out) rest = refusal r p

-- the lines of k records from the ordinal i on, then `accept N`
unfoldable pub lines : List ℕ → List ℕ → ℕ → ℕ → ℕ → List ℕ → List ℕ
lines t sheet n zero i out = accept n
lines t sheet n (suc k) i out = line_then (lining t sheet i out) (λ after. lines t sheet n k (suc i) after)

-- "If reading or checking refuses it prints only `refuse R at P`"; out is the output that lining is lent
abbrev pub when_checked : List ℕ → List ℕ → ℕ → List ℕ → CheckAnswer → List ℕ
when_checked t sheet n out check.Accepted = lines t sheet n (suc n) 0 out
when_checked t sheet n out (check.Refused r p) = refusal r p

abbrev pub when_read : ℕ → List ℕ → List ℕ → ReadAnswer × List ℕ × List ℕ → List ℕ
when_read list t out (read.Accepted m n k, scratch, sheet) =
    when_checked t (take m sheet) n out (checking list t (take m sheet))
when_read list t out (read.Refused r p, scratch, sheet) = refusal r p

-- reading, checking under a list of colours, then lining record by record, with the buffers that are lent
abbrev pub printed : ℕ → List ℕ → List ℕ → List ℕ → List ℕ → List ℕ
printed list t scratch sheet out = when_read list t out (reading t scratch sheet)

-- "the program lends 65,536 and gives reading a sheet of 49,152"
abbrev pub line_bytes : ℕ
line_bytes = 65536

abbrev pub sheet_bytes : ℕ
sheet_bytes = 49152

-- with the program's buffers; 02 (g): "the program takes 1"
unfoldable pub output : List ℕ → List ℕ
output t = printed 1 t (replicate scratch_words 0) (replicate sheet_bytes 0) (replicate line_bytes 0)

-- ---- printing: the same text on a page that is lent

-- nine bytes for each byte that a text may have
abbrev pub page_bytes : ℕ
page_bytes = 147456

-- the text bs at the front of the page, which past it is as it was; the scratch and the sheet are as reading leaves them
abbrev pub paged : ReadAnswer × List ℕ × List ℕ → List ℕ → List ℕ → LineAnswer × List ℕ × List ℕ × List ℕ
paged left bs page = (line.Accepted (length bs), left.1, left.2, bs ++ drop (length bs) page)

-- the answer, and the scratch, the sheet and the page afterwards; 32 at 0 for a shorter page, and then nothing is touched
unfoldable pub printing : ℕ → List ℕ → List ℕ → List ℕ → List ℕ → LineAnswer × List ℕ × List ℕ × List ℕ
printing list t scratch sheet page =
    cond (ltb (length page) page_bytes) (line.Refused OutputTooShort 0, scratch, sheet, page)
    (paged (reading t scratch sheet) (printed list t scratch sheet (replicate line_bytes 0)) page)
