-- Keywords as numbers. Contracts cite these, and no reader needs to believe it.
use Rattle.std.specs.Prelude.{ℕ, ◌+◌, ◌*◌, Bool, ◌&&◌, List, [], ◌∷◌, ltb}
use Prim.Native.String.{String}
use Rattle.law_lengths.specs.Means.{sized}
use Rattle.text.specs.Words.{words}
use Rattle.token.specs.Names.{keywords}

-- the bytes of a word as one number, the first the least, under a 1: no two words of bytes have the same
unfoldable pub pack : List ℕ → ℕ
pack [] = 1
pack (b ∷ w) = pack w * 256 + b

unfoldable pub packs : List (List ℕ) → List ℕ
packs [] = []
packs (w ∷ ws) = pack w ∷ packs ws

abbrev pub up_to4 : ℕ → Bool
up_to4 n = ltb n 5

abbrev pub up_to7 : ℕ → Bool
up_to7 n = ltb 4 n && ltb n 8

unfoldable pub packed_keywords : (ℕ → Bool) → List ℕ
packed_keywords p = packs (sized p (words keywords))

abbrev pub long_keywords : List String
long_keywords = "continue" ∷ "abstract" ∷ "override" ∷ []
