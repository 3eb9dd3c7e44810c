-- 02 (f): the pieces of a fresh script, its text, and when a text can have each of them.
-- `form` writes a number that has no sign.
use Rattle.std.specs.Prelude.{ℕ, suc, ◌+◌, ◌-◌, Bool, true, false, ◌&&◌, not, List, [], ◌∷◌, ◌++◌, eqb, leb, ltb, length, drop}
use Prim.Native.String.{String}
use Rattle.std.proofs.Math.Option.{Option, none, some}
use Rattle.text.specs.Bytes.{among, is_digit, is_letter, is_name, is_inside}
use Rattle.text.specs.Limits.{whole_limit, places_limit}
use Rattle.text.specs.Words.{is_one_of}
use Rattle.number.specs.Number.{Written, nearest, percent, whole, bits}
use Rattle.digits.specs.Numeral.{Sort, float, percentage, counted, all, fraction, written}
use Rattle.token.specs.Token.{name, number, quoted, mark, Token, token}
use Rattle.token.specs.Names.{is_keyword}

-- A piece is a token, or one of `=>`, `::` and `..`, "one each": a word of the grammar; a name that the tree has; one that is the name of
-- an easing without `Easing::`; a number without its sign, an f32 as its bits; what stands between quotes; a mark; two marks with nothing
-- between them.
pub data Piece : Type 0 where
  a_word : List ℕ → Piece
  a_name : List ℕ → Piece
  a_plain : List ℕ → Piece
  a_numeral : Sort → ℕ → Piece
  a_string : List ℕ → Piece
  a_mark : ℕ → Piece
  a_pair : ℕ → ℕ → Piece

-- a number as it is written: its digits before the point, and those behind it
abbrev pub Form : Type 0
Form = Sort → ℕ → List ℕ × List ℕ

-- ---- the text

module _ (form : Form) where
  -- "a number has no suffix"
  unfoldable pub spelt : Piece → List ℕ
  spelt (a_word w) = w
  spelt (a_name w) = w
  spelt (a_plain w) = w
  spelt (a_numeral k b) = (form k b).0 ++ fraction (form k b).1
  spelt (a_string s) = 34 ∷ s ++ 34 ∷ []
  spelt (a_mark b) = b ∷ []
  spelt (a_pair b c) = b ∷ c ∷ []

  -- a blank before each
  unfoldable pub spaced : List Piece → List ℕ
  spaced [] = []
  spaced (x ∷ xs) = 32 ∷ spelt x ++ spaced xs

  -- "Tokens stand one space apart", with none at either end
  unfoldable pub joined : List Piece → List ℕ
  joined xs = drop 1 (spaced xs)

-- ---- the tokens of such a text

module _ (form : Form) where
  -- a piece at q, and the tokens behind it
  unfoldable pub ahead : ℕ → Piece → List Token → List Token
  ahead q (a_word w) ts = token q (name w) ∷ ts
  ahead q (a_name w) ts = token q (name w) ∷ ts
  ahead q (a_plain w) ts = token q (name w) ∷ ts
  ahead q (a_numeral k b) ts = token q (number (written (form k b))) ∷ ts
  ahead q (a_string s) ts = token q (quoted (length s)) ∷ ts
  ahead q (a_mark b) ts = token q (mark b) ∷ ts
  ahead q (a_pair b c) ts = token q (mark b) ∷ token (suc q) (mark c) ∷ ts

  -- the first piece begins at q; where there is none, the text ended right before the blank that would be there
  unfoldable pub laid : ℕ → List Piece → List Token
  laid q [] = token (q - 1) (mark 0) ∷ []
  laid q (x ∷ xs) = ahead q x (laid (suc (q + length (spelt form x))) xs)

-- ---- 34, of one piece: whether a text under 01's rules can have it, and reads it as it is meant

-- 01: "A name is a letter or `_`, then letters, digits, `_`"
unfoldable pub word_like : List ℕ → Bool
word_like [] = false
word_like (b ∷ bs) = is_letter b && all is_name bs

-- a name, and no keyword
abbrev pub name_like : List ℕ → Bool
name_like w = word_like w && not (is_keyword w)

-- the words of the grammar's `curves`, which begin an easing with parentheses: none is an easing's name (`no_curve` in `fresh`)
abbrev pub curve_names : List String
curve_names = "cubic_bezier" ∷ "steps" ∷ "wiggle" ∷ "rough" ∷ "slowmo" ∷ []

-- 01: "1 or more digits"; 02 (n): at most 40 before the point and 40 behind it, and no exponent
abbrev pub numeral : List ℕ × List ℕ → Bool
numeral w =
    all is_digit w.0 && all is_digit w.1
    && ltb 0 (length w.0)
    && leb (length w.0) whole_limit && leb (length w.1) places_limit

abbrev pub holds : Option ℕ → ℕ → Bool
holds none m = false
holds (some n) m = eqb n m

-- whether it reads to m
abbrev pub means : Sort → ℕ → Written → Bool
means float m w = eqb (bits (nearest false w)) m
means percentage m w = not w.point && eqb (bits (percent false w.digits)) m
means counted m w = not w.point && holds (whole false w) m

abbrev pub known_mark : ℕ → Bool
known_mark b = among ":;,=>.+-%([{)]}" b

-- one that is no delimiter
abbrev pub plain_mark : ℕ → Bool
plain_mark b = among ":;,=>.+-%" b

unfoldable pub fits : Form → Piece → Bool
fits form (a_word w) = word_like w
fits form (a_name w) = name_like w
fits form (a_plain w) = name_like w && not (is_one_of curve_names w)
fits form (a_numeral k m) = numeral (form k m) && means k m (written (form k m))
fits form (a_string s) = all is_inside s
fits form (a_mark b) = known_mark b
fits form (a_pair b c) = plain_mark b && plain_mark c

unfoldable pub all_fit : Form → List Piece → Bool
all_fit form [] = true
all_fit form (x ∷ xs) = fits form x && all_fit form xs
