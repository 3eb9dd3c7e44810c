-- What the code's bytes and its table stand for. Contracts cite these.
use Rattle.std.specs.Prelude.{ℕ, List, [], ◌∷◌, Option, None, Some}
use Prim.Native.String.{String}
use Rattle.std.proofs.Math.Option as maybe

-- the four bytes, if there are any
abbrev pub rgba_of : Option (List ℕ) → maybe.Option (List ℕ)
rgba_of (Some bytes) = maybe.some bytes
rgba_of None = maybe.none

-- the numbers of some colours
unfoldable pub values_in : List (String × ℕ) → List ℕ
values_in [] = []
values_in (c ∷ cs) = c.1 ∷ values_in cs
