-- How far a fresh script is written: what the contracts of its writers speak of. No definition of 02 (f) rests on it.
use Rattle.std.specs.Prelude.{ℕ, suc, ◌+◌, ◌/◌, ◌^◌, ◌≤◌, ◌<◌, Bool, cond, List, [], ◌∷◌, ◌++◌, ◌≡◌, leb, length}
use Rattle.std.proofs.Math.Option.{Option, none, some}
use Rattle.std.specs.Borrow.{GName}
use Rattle.std.proofs.lemmas.List.Edits.{sets}
use Rattle.text.specs.Limits.{text_limit, whole_limit, places_limit}
use Rattle.digits.specs.Numeral.{fraction}
use Rattle.digits.specs.Fewest.{form, spelled}
use Rattle.digits.specs.AnswerMeans.{whole_number}
use Rattle.digits.specs.declared.Decimal.{Decimal}
use Rattle.pieces.specs.Pieces.{Piece, spelt, fits}
use Rattle.back_spelling.specs.declared.PieceWriter.{PieceWriter}

-- the buffer that was lent: by which reference, and its length
abbrev pub Lent : Type 0
Lent = GName × ℕ

-- a piece that no text can have has come, or there are more bytes than may be written, into a buffer; or the buffer's bytes, and how
-- many of them are written
pub data Page : Type 0 where
  spoiled : Lent → Page
  full : Lent → Page
  page : GName → List ℕ → ℕ → Page

-- the buffer
abbrev pub lent : Page → Lent
lent (spoiled b) = b
lent (full b) = b
lent (page g out at) = (g, length out)

abbrev pub spoil : Page → Page
spoil p = spoiled (lent p)

-- a script's limit, and the blank behind its last piece
abbrev pub most : ℕ
most = suc text_limit

unfoldable pub put_on : List ℕ → Page → Page
put_on bs (spoiled b) = spoiled b
put_on bs (full b) = full b
put_on bs (page g out at) = cond (leb (at + length bs) most) (page g (sets out at bs) (at + length bs)) (full (g, length out))

-- a piece, and a blank behind it
unfoldable pub put : Piece → Page → Page
put x p = cond (fits form x) (put_on (spelt form x ++ 32 ∷ []) p) (spoil p)

unfoldable pub run : List Piece → Page → Page
run [] p = p
run (x ∷ xs) p = run xs (put x p)

abbrev pub on_page : GName → List ℕ → ℕ → Bool → Page
on_page g out at fits = cond fits (cond (leb at most) (page g out at) (full (g, length out))) (spoiled (g, length out))

-- what the code has of it
unfoldable pub page_of : PieceWriter → Page
page_of c = on_page c.out.ghost_name c.out.now c.pen.at c.pen.fits

-- the piece x is put
abbrev pub Puts : Piece → PieceWriter → PieceWriter → Type 0
Puts x c d = page_of d ≡ put x (page_of c)

-- ---- numbers

-- n over 10 ^ p can be written
abbrev pub Spellable : Option (ℕ × ℕ) → Type 0
Spellable none = Unit {0}
Spellable (some d) = (d.1 ≤ places_limit) × (d.0 / 10 ^ d.1 < 10 ^ whole_limit)

-- its digits before the point are at most 40
abbrev pub Below : Decimal → Type 0
Below d = whole_number d / 10 ^ d.places < 10 ^ whole_limit

-- a whole number in several parts
pub record Large (d : Decimal) : Type 0 where
  pub some : 0 < d.middle + d.high
  pub n : d.n < 10 ^ 18
  pub middle : d.middle < 10 ^ 18
  pub high : d.high < 10 ^ 4

-- its digits and a blank
abbrev pub put_number : Option (ℕ × ℕ) → Page → Page
put_number none p = spoil p
put_number (some d) p = put_on (32 ∷ []) (put_on ((spelled d).0 ++ fraction (spelled d).1) p)
