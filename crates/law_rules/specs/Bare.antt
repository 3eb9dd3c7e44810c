-- 02 (n): tokens of which no number has an exponent.
use Rattle.std.specs.Prelude.{Bool, true, ◌&&◌, not, List, [], ◌∷◌, ◌≡◌, ℕ}
use Rattle.token.specs.Token.{Kind, name, number, quoted, mark, Token, token, tokens_from}

abbrev pub bare_kind : Kind → Bool
bare_kind (name w) = true
bare_kind (number w) = not w.exponent
bare_kind (quoted n) = true
bare_kind (mark b) = true

unfoldable pub bare : List Token → Bool
bare [] = true
bare (token p k ∷ ts) = bare_kind k && bare ts

-- 02 (n): (f) "judges 34 by these rules without one": no number of the text u has an exponent
abbrev pub NoExponent : List ℕ → Type 0
NoExponent u = bare (tokens_from u 0) ≡ true
