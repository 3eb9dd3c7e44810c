-- Lists of words, lookups in them, and the table that code has for one.
use Rattle.std.specs.Prelude.{ℕ, zero, suc, Bool, true, false, ◌&&◌, List, [], ◌∷◌, ltb, length, take}
use Prim.Native.String.{String}
use Rattle.std.proofs.Math.Option.{Option, none, some}
use Rattle.text.specs.Bytes.{bytes, same}

abbrev pub is_some {ℓ} : {A : Type ℓ} → Option A → Bool
is_some none = false
is_some (some a) = true

-- the one there is, or else the other
abbrev pub or_else {ℓ} : {A : Type ℓ} → Option A → Option A → Option A
or_else none y = y
or_else (some x) y = some x

-- what is there, or else d
abbrev pub default {ℓ} : {A : Type ℓ} → Option A → A → A
default none d = d
default (some a) d = a

-- the words that some literals spell
abbrev pub words : List String → List (List ℕ)
words [] = []
words (n ∷ ns) = bytes n ∷ words ns

-- the place of a word in a list, counted from i
unfoldable pub find : List (List ℕ) → ℕ → List ℕ → Option ℕ
find [] i w = none
find (n ∷ ns) i w = elim (same w n) [ true ↦ some i | false ↦ find ns (suc i) w ]

abbrev pub is_one_of : List String → List ℕ → Bool
is_one_of names w = is_some (find (words names) 0 w)

-- what a list has under a word
unfoldable pub under {ℓ} : {A : Type ℓ} → List (String × A) → List ℕ → Option A
under [] w = none
under (f ∷ fs) w = elim (same w (bytes f.0)) [ true ↦ some f.1 | false ↦ under fs w ]

-- the words of a table, each behind a byte that is its length; the first k bytes belong to a word before
unfoldable pub entries : ℕ → List ℕ → List (List ℕ)
entries k [] = []
entries (suc k) (b ∷ t) = entries k t
entries zero (b ∷ t) = take b t ∷ entries b t

abbrev pub table : List ℕ → List (List ℕ)
table t = entries 0 t

-- whether each word of a list is shorter than k
unfoldable pub shorter : ℕ → List (List ℕ) → Bool
shorter k [] = true
shorter k (n ∷ ns) = ltb (length n) k && shorter k ns
