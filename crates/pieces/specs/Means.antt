-- What the laws on pieces speak of: `Fits` and `AllFit` say what the tests `fits` and `all_fit` decide (proofs/FitLaws), `Nests` that the
-- delimiters are in pairs, `Complete` what is asked of `form`. No definition of 02 (f) rests on this file.
use Rattle.std.specs.Prelude.{ℕ, true, false, List, [], ◌∷◌, ◌≡◌}
use Rattle.std.proofs.Math.Option.{some}
use Rattle.digits.specs.Numeral.{Sort, Numeral, all, counted, float, percentage, written}
use Rattle.text.specs.Bytes.{is_inside}
use Rattle.text.specs.Words.{is_one_of}
use Rattle.number.specs.Number.{Written, nearest, percent, whole, bits}
use Rattle.token.specs.Split.{Nest, unfit, awaits, nest_mark}
use Rattle.token.specs.Names.{is_keyword}
use Rattle.pieces.specs.Pieces.{Piece, a_word, a_name, a_plain, a_numeral, a_string, a_mark, a_pair, Form}
use Rattle.pieces.specs.Pieces.{word_like, curve_names, known_mark, plain_mark}

-- ---- pieces

-- w reads to m
abbrev pub Means : Sort → ℕ → Written → Type 0
Means float m w = bits (nearest false w) ≡ m
Means percentage m w = (w.point ≡ false) × (bits (percent false w.digits) ≡ m)
Means counted m w = (w.point ≡ false) × (whole false w ≡ some m)

module _ (form : Form) where
  abbrev pub Fits : Piece → Type 0
  Fits (a_word w) = word_like w ≡ true
  Fits (a_name w) = (word_like w ≡ true) × (is_keyword w ≡ false)
  Fits (a_plain w) = (word_like w ≡ true) × (is_keyword w ≡ false) × (is_one_of curve_names w ≡ false)
  Fits (a_numeral k m) = Numeral (form k m) × Means k m (written (form k m))
  Fits (a_string s) = all is_inside s ≡ true
  Fits (a_mark b) = known_mark b ≡ true
  Fits (a_pair b c) = (plain_mark b ≡ true) × (plain_mark c ≡ true)

  abbrev pub AllFit : List Piece → Type 0
  AllFit [] = Unit {0}
  AllFit (x ∷ xs) = Fits x × AllFit xs

-- ---- delimiters: the closers awaited, the innermost first

abbrev pub nest_of : Piece → List ℕ → Nest
nest_of (a_word w) cs = awaits cs
nest_of (a_name w) cs = awaits cs
nest_of (a_plain w) cs = awaits cs
nest_of (a_numeral k b) cs = awaits cs
nest_of (a_string s) cs = awaits cs
nest_of (a_mark b) cs = nest_mark b cs
nest_of (a_pair b c) cs = awaits cs

abbrev pub fitly : (List ℕ → Type 0) → Nest → Type 0
fitly P (unfit r) = ⊥
fitly P (awaits cs) = P cs

abbrev pub Nests : List ℕ → List Piece → Type 0
Nests cs [] = cs ≡ []
Nests cs (x ∷ xs) = fitly (λ ds. Nests ds xs) (nest_of x cs)

-- ---- what is asked of `form`: it writes whatever a number of a text reads to

-- v is the number of some digits that a text can have
pub record InText (v : Written) : Type 0 where
  pub form : List ℕ × List ℕ
  pub numeral : Numeral form
  pub digits : v.digits ≡ (written form).digits
  pub places : v.places ≡ (written form).places
  pub point : v.point ≡ (written form).point

pub record Complete (form : Form) : Type 0 where
  pub floats : (v : Written) → InText v → Fits form (a_numeral float (bits (nearest false v)))
  pub percents : (v : Written) → InText v → v.point ≡ false → Fits form (a_numeral percentage (bits (percent false v.digits)))
  pub counts : (v : Written) (n : ℕ) → InText v → v.point ≡ false → whole false v ≡ some n → Fits form (a_numeral counted n)
