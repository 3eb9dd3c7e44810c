-- A cursor's word, and what it holds. Only these know its layout: the place behind the next token in the lowest 16 bits, then the place
-- where
-- tokens were left in 16, how many numbers were rounded in 15, and the token's code in the highest 17.
use Rattle.std.specs.Prelude.{ℕ, zero, suc, ◌+◌, ◌-◌, ◌*◌, ◌/◌, ◌%◌, Bool, cond, ltb, eqb}
use Rattle.token.specs.declared.Tok.{Tok}
use Rattle.token.specs.declared.Tok.TheVariants.{Name, Num, Quoted, Mark}
use Rattle.read_cursor.specs.declared.Cursor.{Cursor}

-- ---- the parts of a word

-- the place behind the next token
unfoldable pub end_of : Cursor → ℕ
end_of c = c.word % 65536

-- the place where tokens were left, or `nothing`
unfoldable pub left_at : Cursor → ℕ
left_at c = c.word / 65536 % 65536

-- how many numbers were rounded
unfoldable pub rounded_of : Cursor → ℕ
rounded_of c = c.word / 4294967296 % 32768

unfoldable pub code_of : Cursor → ℕ
code_of c = c.word / 140737488355328

-- ---- a token's code: a mark's byte, 0 at the end; of a name, a number or a string, its place on top of what tells its kind

-- what the token is
unfoldable pub code_tok : ℕ → Tok
code_tok k = cond (ltb k 256) (Mark k) (cond (ltb k 65536) Name (cond (ltb k 98304) Num Quoted))

-- its place, e being the place behind it
unfoldable pub code_place : ℕ → ℕ → ℕ
code_place k e = cond (ltb k 256) (cond (eqb k 0) e (e - 1)) (k % 32768)

-- what the next token is
unfoldable pub tok_of : Cursor → Tok
tok_of c = code_tok (code_of c)

-- the place of the next token
unfoldable pub at_of : Cursor → ℕ
at_of c = code_place (code_of c) (end_of c)

-- the code of a token at a place
unfoldable pub tok_code : Tok → ℕ → ℕ
tok_code Name p = 32768 + p
tok_code Num p = 65536 + p
tok_code Quoted p = 98304 + p
tok_code (Mark b) p = b

-- ---- words

-- what is noted at a cursor, the other bits 0
unfoldable pub notes_of : Cursor → ℕ
notes_of c = c.word / 65536 % 2147483648 * 65536

-- the word of a token of n bytes at a place, over notes; of the end where it has no bytes
unfoldable pub head_word : ℕ → ℕ → Tok → ℕ → ℕ
head_word notes p k zero = notes + p
head_word notes p k (suc n) = tok_code k p * 140737488355328 + notes + (p + suc n)

-- c with another place noted
unfoldable pub noting : Cursor → ℕ → Cursor
noting c p = record { word = c.word / 4294967296 * 4294967296 + p * 65536 + c.word % 65536 }

-- c with a number counted, if it was rounded
unfoldable pub tallied : Bool → Cursor → Cursor
tallied b c = record { word = cond b (c.word + 4294967296) c.word }
