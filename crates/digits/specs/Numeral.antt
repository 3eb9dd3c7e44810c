-- A number as it is written, without its sign and a suffix: the digits before its point, and those behind it.
use Rattle.std.specs.Prelude.{ℕ, ◌+◌, ◌≤◌, ◌<◌, Bool, true, false, ◌&&◌, List, [], ◌∷◌, ◌≡◌, length}
use Rattle.text.specs.Limits.{whole_limit, places_limit}
use Rattle.text.specs.Bytes.{decimal, is_digit}
use Rattle.number.specs.Number.{Written}

-- what a number is to the reader: an f32, a percent, a u32
pub data Sort : Type 0 where
  float : Sort
  percentage : Sort
  counted : Sort

unfoldable pub all : (ℕ → Bool) → List ℕ → Bool
all p [] = true
all p (b ∷ bs) = p b && all p bs

-- 01: "A number is 1 or more digits, then possibly a point and 1 or more digits"; 02 (n): "up to 40 digits before and 40 after the point"
pub record Numeral (w : List ℕ × List ℕ) : Type 0 where
  pub whole : all is_digit w.0 ≡ true
  pub part : all is_digit w.1 ≡ true
  pub some : 0 < length w.0
  pub few : length w.0 ≤ whole_limit
  pub short : length w.1 ≤ places_limit

unfoldable pub pointed : List ℕ → Bool
pointed [] = false
pointed (d ∷ ds) = true

-- what such a number reads as
abbrev pub written : List ℕ × List ℕ → Written
written w = record {
  digits = decimal (decimal 0 w.0) w.1;
  places = length w.1;
  point = pointed w.1;
  exponent = false;
  suffix = false;
}

-- a point stands before the digits behind it
unfoldable pub fraction : List ℕ → List ℕ
fraction [] = []
fraction (d ∷ ds) = 46 ∷ d ∷ ds

-- the bits with a sign
abbrev pub with_sign : Bool → ℕ → ℕ
with_sign true m = m + 2147483648
with_sign false m = m
