-- What a token reader reads and counts.
use Rattle.std.specs.Prelude.{ℕ, suc, Bool, false, cond, List, [], ◌∷◌, eqb, ltb, length}
use Rattle.text.specs.Limits.{text_limit}
use Rattle.token.specs.Token.{Token, token, is_mark, tokens_from}

-- 01, "At most 16,384 bytes": a text over the limit is read as the empty one
unfoldable pub readable : List ℕ → List ℕ
readable t = cond (ltb text_limit (length t)) [] t

-- how many tokens stand before the text's end, or before a place where none can be cut
unfoldable pub token_count : List Token → ℕ
token_count [] = 0
token_count (token p k ∷ ts) = cond (is_mark k 0) 0 (suc (token_count ts))

-- a text of at most the limit without tokens
unfoldable pub is_blank : List ℕ → Bool
is_blank t = cond (ltb text_limit (length t)) false (eqb (token_count (tokens_from t 0)) 0)
