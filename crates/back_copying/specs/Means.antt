-- A value of the sheet, read at a place and written as a fresh script has it: what contracts speak of.
use Rattle.std.specs.Prelude.{ℕ, List, ◌≡◌}
use Rattle.codec.specs.Codec.{Form}
use Rattle.sheet_decode.specs.Means.{Reads}
use Rattle.pieces.specs.Pieces.{Piece}
use Rattle.fresh.specs.Fresh.{Writer}
use Rattle.back_spelling.specs.Means.{Page, lent, run, page_of}
use Rattle.back_spelling.specs.declared.PieceWriter.{PieceWriter}

-- the page p has become q: whatever pieces follow, those of the writer w in front of them have been put
pub record Written (w : Writer) (p q : Page) : Type 0 where
  pub is : (ps : List Piece) → run (w ps) p ≡ run ps q

-- at `at` the form reads a value, and the place behind it is `next`, and the value's pieces have been put; or none, and `next` is lost. The
-- buffer is the same, and keeps its length
pub record Copies {A : Type 0} (c : Form A) (w : A → Writer) (s : List ℕ) (at : ℕ) (p q : Page) (next : ℕ) : Type 0 where
  pub reads : Reads {X = List Piece → Page} c (λ a ps. run (w a ps) p) s at (λ ps. run ps q) next
  pub kept : lent q ≡ lent p

-- the same of the code's writers
abbrev pub Puts : Writer → PieceWriter → PieceWriter → Type 0
Puts w c d = Written w (page_of c) (page_of d)

abbrev pub CopiesTo : {A : Type 0} → Form A → (A → Writer) → List ℕ → ℕ → PieceWriter → PieceWriter → ℕ → Type 0
CopiesTo c w s at writer after next = Copies c w s at (page_of writer) (page_of after) next
