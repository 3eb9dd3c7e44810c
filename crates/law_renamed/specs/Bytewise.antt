-- 02 (m) by the tokens' bytes, as its sentence has it.
use Rattle.std.specs.Prelude.{ℕ, Bool, true, List, [], ◌∷◌, ◌≡◌, drop}
use Rattle.std.proofs.Math.Option.{some}
use Rattle.text.specs.Bytes.{part, one_of}
use Rattle.token.specs.Token.{Token, Lexeme, bad, piece, lexeme, place, kind, tokens_from}
use Rattle.token.specs.Names.{name_of, quote_of}
use Rattle.reading.specs.Reading.{parse}
use Rattle.law_renamed.specs.Words.{joined, place_of}
use Rattle.law_renamed.specs.Renaming.{free_by}

abbrev pub size_of : Lexeme → ℕ
size_of (bad r) = 0
size_of (piece k n) = n

-- the bytes of the token at a place of a text; the text's end has none
abbrev pub bytes_at : List ℕ → ℕ → List ℕ
bytes_at t p = part t p (size_of (lexeme (drop p t)))

-- the first of the tokens ts of t and the first of the tokens us of u: they have the same bytes, and are one token with the mark behind
-- them in both or in neither; or they are free, and both are names, or both strings
pub data Matches (t u : List ℕ) (free : Bool) (ts us : List Token) : Type 0 where
  equal : bytes_at t (place ts) ≡ bytes_at u (place us) → joined ts ≡ joined us → Matches t u free ts us
  names : (w v : List ℕ) → free ≡ true → name_of (kind ts) ≡ some w → name_of (kind us) ≡ some v → Matches t u free ts us
  strings : (n m : ℕ) → free ≡ true → quote_of (kind ts) ≡ some n → quote_of (kind us) ≡ some m → Matches t u free ts us

-- token by token
unfoldable pub AllMatch : List ℕ → List ℕ → List ℕ → List Token → List Token → Type 0
AllMatch t u free [] [] = Unit {0}
AllMatch t u free [] (b ∷ us) = ⊥
AllMatch t u free (a ∷ ts) [] = ⊥
AllMatch t u free (a ∷ ts) (b ∷ us) = Matches t u (one_of free (place_of a)) (a ∷ ts) (b ∷ us) × AllMatch t u free ts us

-- the tokens of the scripts t and u agree in order and kind, and their bytes differ only in the names and strings that (m) frees in t
unfoldable pub Bytewise : List ℕ → List ℕ → Type 0
Bytewise t u = AllMatch t u (free_by (parse t)) (tokens_from t 0) (tokens_from u 0)
