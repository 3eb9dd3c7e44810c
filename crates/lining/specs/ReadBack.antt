-- 02 (c), over the printed line: its digits are read back.
use Rattle.std.specs.Prelude.{ℕ, suc, ◌+◌, ◌*◌, ◌%◌, ◌<◌, true, false, List, [], ◌∷◌, ◌++◌, ◌≢◌, ◌≡◌, eqb, length, get_or, set, take}
use Rattle.std.proofs.Math.Option.{Option, none, some}
use Rattle.std.proofs.Math.ListN.{get_elem?}
use Rattle.text.specs.Bytes.{bytes}
use Rattle.sheet.specs.Sheet.{Forest, decode}
use Rattle.sheet.specs.Records.{all_records}
use Rattle.lining.specs.Line.{total}

-- ---- 01: "A line is hexadecimal, capitals, then LF"

-- the place of a byte in a list, counted from k
unfoldable pub place_from : ℕ → List ℕ → ℕ → Option ℕ
place_from k [] d = none
place_from k (x ∷ xs) d = elim (eqb x d) [ true ↦ some k | false ↦ place_from (suc k) xs d ]

-- the value of a digit: its place among the sixteen
abbrev pub value_of : ℕ → Option ℕ
value_of d = place_from 0 (bytes "0123456789ABCDEF") d

-- two digits are a byte, in front of other bytes
abbrev pub with_byte : Option ℕ → Option ℕ → Option (List ℕ) → Option (List ℕ)
with_byte none low bs = none
with_byte (some h) none bs = none
with_byte (some h) (some l) none = none
with_byte (some h) (some l) (some bs) = some ((h * 16 + l) ∷ bs)

-- the bytes that some digits spell
unfoldable pub read_back : List ℕ → Option (List ℕ)
read_back [] = some []
read_back (d ∷ []) = none
read_back (d ∷ e ∷ ds) = with_byte (value_of d) (value_of e) (read_back ds)

-- ---- "the record's length in 2 bytes, the record, a check byte"

-- 02 (c): "length, record and check byte together sum to zero modulo 256, so that the sum tells any one of these bytes changed and never
-- two swapped"
pub record Tells (bs : List ℕ) : Type 0 where
  pub zero : total bs % 256 ≡ 0
  pub changed : (i b : ℕ) → i < length bs → b < 256 → b ≢ get_or bs i 0 → total (set bs i b) % 256 ≢ 0
  pub swapped : (i j : ℕ) → i < length bs → j < length bs → total (set (set bs i (get_or bs j 0)) j (get_or bs i 0)) % 256 ≡ 0

-- some digits, read back, are the two bytes of a length, that of the record r, then r and a check byte, each below 256
pub record Spells (r digits : List ℕ) : Type 0 where
  pub high : ℕ
  pub low : ℕ
  pub check : ℕ
  pub back : read_back digits ≡ some (high ∷ low ∷ r ++ check ∷ [])
  pub long : high * 256 + low ≡ length r
  pub small : (i : ℕ) → get_or (high ∷ low ∷ r ++ check ∷ []) i 0 < 256
  pub tells : Tells (high ∷ low ∷ r ++ check ∷ [])

-- the first n bytes of an output are the line of the record with the ordinal i of a sheet
pub record Lined (t s : List ℕ) (i n : ℕ) (after : List ℕ) : Type 0 where
  pub tree : Forest
  pub decodes : decode (length t) s ≡ some tree
  pub bytes : List ℕ
  pub found : get_elem? (all_records (length t) tree) i ≡ some bytes
  pub digits : List ℕ
  pub is : take n after ≡ digits ++ 10 ∷ []
  pub spells : Spells bytes digits
