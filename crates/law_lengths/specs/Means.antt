-- The words of a list whose length passes a test.
use Rattle.std.specs.Prelude.{ℕ, Bool, cond, List, [], ◌∷◌, length}
use Prim.Native.String.{String}
use Rattle.text.specs.Words.{is_some, words, find}

unfoldable pub sized : (ℕ → Bool) → List (List ℕ) → List (List ℕ)
sized p [] = []
sized p (w ∷ ws) = cond (p (length w)) (w ∷ sized p ws) (sized p ws)

-- whether a word is one of those
abbrev pub among : (ℕ → Bool) → List String → List ℕ → Bool
among p names w = is_some (find (sized p (words names)) 0 w)
