-- 02 (k), "Planes before storage": planing and its inverse, with their output.
use Rattle.std.specs.Prelude.{ℕ, false, cond, List, ◌++◌, ◌≡◌, ltb, length, drop}
use Rattle.std.proofs.Math.Option.{Option, none, some}
use Rattle.text.specs.Limits.{text_limit}
use Rattle.sheet.specs.Sheet.{Forest, encode, decode}
use Rattle.sheet.specs.Opening.{foreign_from, Opened, opened, shut, unless_foreign}
use Rattle.planed.specs.Planes.{planed, unplaned}
use Rattle.error.specs.declared.Refusal.{Refusal}
use Rattle.error.specs.declared.Refusal.TheVariants.{TextTooLong, NotASheet, OutputTooShort, NotPlaned}
use Rattle.error.specs.declared.LineAnswer.{LineAnswer}
use Rattle.error.specs.declared.LineAnswer.TheVariants.{Accepted, Refused}

-- "then 32 for a short output, its place 0", or the bytes at the front of the output, which past them is as it was
abbrev pub placed : List ℕ → List ℕ → LineAnswer × List ℕ
placed out bs = cond (ltb (length out) (length bs)) (Refused OutputTooShort 0, out) (Accepted (length bs), bs ++ drop (length bs) out)

-- the tree that bytes stand for, or a refusal
abbrev pub tree_or : Refusal → Option Forest → Opened
tree_or r none = shut r 0
tree_or r (some ns) = opened ns

-- "Refused: 1 and 2 as in checking", then r
abbrev pub opened_as : List ℕ → Refusal → Option Forest → Opened
opened_as t r o = cond (ltb text_limit (length t)) (shut TextTooLong 0) (unless_foreign (foreign_from 0 t) (tree_or r o))

-- and the bytes that are written of the tree
abbrev pub answered : (Forest → List ℕ) → List ℕ → Opened → LineAnswer × List ℕ
answered write out (shut r p) = (Refused r p, out)
answered write out (opened ns) = placed out (write ns)

-- "then 20"
unfoldable pub planing : List ℕ → List ℕ → List ℕ → LineAnswer × List ℕ
planing t s out = answered (planed (length t)) out (opened_as t NotASheet (decode (length t) s))

-- "in the inverse instead 40"
unfoldable pub unplaning : List ℕ → List ℕ → List ℕ → LineAnswer × List ℕ
unplaning t bs out = answered (encode (length t)) out (opened_as t NotPlaned (unplaned (length t) bs))

-- ---- 40 "exactly if no sheet for that text planes to those bytes"

-- a text that neither 1 nor 2 refuses
pub record Plain (t : List ℕ) : Type 0 where
  pub short : ltb text_limit (length t) ≡ false
  pub clean : foreign_from 0 t ≡ none

-- the sheets for a text that plane to those bytes
abbrev pub PlanesTo : List ℕ → List ℕ → Type 0
PlanesTo t bs = (s : List ℕ) × (ns : Forest) × (decode (length t) s ≡ some ns) × (planed (length t) ns ≡ bs)
