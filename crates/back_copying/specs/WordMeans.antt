-- Words of the grammar in a table, and fields that may be absent: what contracts speak of.
use Rattle.std.specs.Prelude.{ℕ, Bool, true, ◌&&◌, List, [], ◌∷◌, ◌≡◌, map}
use Prim.Native.String.{String}
use Rattle.std.specs.Borrow.{Bor, MutBor}
use Rattle.codec.specs.Codec.{below}
use Rattle.sheet_decode.specs.Means.{Number}
use Rattle.pieces.specs.Pieces.{a_word, word_like}
use Rattle.fresh.specs.Fresh.{mark}
use Rattle.back_spelling.specs.declared.PieceWriter.{PieceWriter}
use Rattle.back_copying.specs.Means.{Puts}

-- a literal
abbrev pub Literal : Type 0
Literal = String

-- the words of a table
abbrev pub texts : List (Bor (List ℕ)) → List (List ℕ)
texts names = map (λ n. n.now) names

unfoldable pub all_words : List (List ℕ) → Bool
all_words [] = true
all_words (w ∷ ws) = word_like w && all_words ws

-- how a step reads a value of a sheet at a place and writes it: with the place behind it, and what it leaves of the writer
abbrev pub Step : Type 1
Step = ℕ → MutBor PieceWriter → ℕ → MutBor PieceWriter → Type 0

-- a field that may be absent was written: nothing; or its name, and by a step its value
pub data FieldPut (name : List ℕ) (step : Step) (s : List ℕ) (at : ℕ) (p : PieceWriter) : PieceWriter → ℕ → Type 0 where
  absent : {b next : ℕ} → Number (below 2) 2 s at b next → b ≡ 0 → FieldPut name step s at p p next
  present : {b m next : ℕ} (o r : MutBor PieceWriter) → Number (below 2) 2 s at b m → (b ≡ 0 → ⊥)
      → Puts (λ ps. a_word name ∷ mark ":" ∷ ps) p o.now → step m o next r → FieldPut name step s at p r.now next
