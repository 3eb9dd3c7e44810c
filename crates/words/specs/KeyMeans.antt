-- A word as a number, and the place of a number among those of a list's words.
use Rattle.std.specs.Prelude.{ℕ, suc, ◌+◌, ◌*◌, cond, List, [], ◌∷◌, eqb, Option, None, Some}
use Rattle.std.proofs.Math.Option as maybe
use Rattle.words.specs.ListMeans.{list_of}
use Rattle.words.specs.declared.List.{List as WordList}

-- the bytes of a word below a number, the first the least
unfoldable pub onto : ℕ → List ℕ → ℕ
onto t [] = t
onto t (b ∷ w) = onto t w * 256 + b

-- a word as a number: its bytes under a 1
abbrev pub pack : List ℕ → ℕ
pack w = onto 1 w

unfoldable pub packs : List (List ℕ) → List ℕ
packs [] = []
packs (w ∷ ws) = pack w ∷ packs ws

-- the words of a list, as numbers
unfoldable pub keys_of : WordList → List ℕ
keys_of k = packs (list_of k)

-- the place of v, counted from i, if it is there
unfoldable pub seek : List ℕ → ℕ → ℕ → Option ℕ
seek [] i v = None
seek (m ∷ ms) i v = cond (eqb v m) (Some i) (seek ms (suc i) v)

-- such a place, as `find` gives it
unfoldable pub place_is : Option ℕ → maybe.Option ℕ
place_is None = maybe.none
place_is (Some i) = maybe.some i
