-- presets.rs: the names of colours; validate.rs: which strings are colours.
use Rattle.std.specs.Prelude.{ℕ, Bool, ◌&&◌, ◌||◌, cond, List, [], ◌∷◌, eqb, length, drop}
use Prim.Native.String.{String}
use Rattle.text.specs.Bytes.{is_hex, lowered, run, at}
use Rattle.text.specs.Words.{is_some, find, words}

-- the names in is_named_color
abbrev pub colors : List String
colors =
    "black" ∷ "white" ∷ "red" ∷ "green" ∷ "blue" ∷ "yellow" ∷ "cyan" ∷ "magenta" ∷ "gray" ∷ "grey" ∷ "orange" ∷ "purple" ∷ "pink"
    ∷ "brown" ∷ "lime" ∷ "teal" ∷ "navy" ∷ "maroon" ∷ "olive" ∷ "silver" ∷ "aqua" ∷ "fuchsia" ∷ []

-- 01: "a `#` needs 3, 4, 6 or 8 hexadecimal digits"
abbrev pub hex_size : ℕ → Bool
hex_size n = eqb n 3 || eqb n 4 || eqb n 6 || eqb n 8

-- is_valid_color behind the `#`: of such a size, and the hexadecimal digits at its front are all of it
unfoldable pub is_hex_color : List ℕ → Bool
is_hex_color t = hex_size (length t) && eqb (run is_hex t) (length t)

-- is_valid_color, over any list of names in small letters
unfoldable pub is_color_of : List (List ℕ) → List ℕ → Bool
is_color_of names s = cond (eqb (at s 0) 35) (is_hex_color (drop 1 s)) (is_some (find names 0 (lowered s)))

-- is_valid_color, over a list of literals: `colors` is the Rust's
abbrev pub is_color : List String → List ℕ → Bool
is_color names s = is_color_of (words names) s
