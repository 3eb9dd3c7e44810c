-- 01: "A line is hexadecimal, capitals, then LF: the record's length in 2 bytes, the record, a check byte."
use Rattle.std.specs.Prelude.{ℕ, ◌+◌, ◌-◌, ◌/◌, ◌%◌, cond, List, [], ◌∷◌, ◌++◌, ltb, length}
use Rattle.codec.specs.Codec.{big}

abbrev pub digit : ℕ → ℕ
digit n = cond (ltb n 10) (48 + n) (55 + n)

unfoldable pub hex : List ℕ → List ℕ
hex [] = []
hex (b ∷ bs) = digit (b / 16) ∷ digit (b % 16) ∷ hex bs

unfoldable pub total : List ℕ → ℕ
total [] = 0
total (b ∷ bs) = b + total bs

-- what the check byte covers: "the record's length in 2 bytes, the record"
abbrev pub covered : List ℕ → List ℕ
covered r = (big 2).write (length r) ++ r

-- 02 (c): "length, record and check byte together sum to zero modulo 256"
unfoldable pub check_byte : List ℕ → ℕ
check_byte r = (256 - total (covered r) % 256) % 256

-- the bytes that a line spells
abbrev pub spelled : List ℕ → List ℕ
spelled r = covered r ++ check_byte r ∷ []

unfoldable pub line : List ℕ → List ℕ
line r = hex (spelled r) ++ 10 ∷ []
