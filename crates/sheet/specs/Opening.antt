-- 01, "Order": what checking and lining refuse first, 1, 2 and 20.
use Rattle.std.specs.Prelude.{ℕ, suc, true, false, cond, List, [], ◌∷◌, ltb, length}
use Rattle.std.proofs.Math.Option.{Option, none, some}
use Rattle.text.specs.Limits.{text_limit}
use Rattle.text.specs.Bytes.{is_foreign}
use Rattle.error.specs.declared.Refusal.{Refusal}
use Rattle.error.specs.declared.Refusal.TheVariants.{TextTooLong, BadForm, NotASheet}
use Rattle.sheet.specs.Sheet.{Forest, decode}

-- the place of the first byte that no script holds, counted from i
unfoldable pub foreign_from : ℕ → List ℕ → Option ℕ
foreign_from i [] = none
foreign_from i (b ∷ bs) = elim (is_foreign b) [ true ↦ some i | false ↦ foreign_from (suc i) bs ]

-- the tree of a sheet, or a refusal and its place
pub data Opened : Type 0 where
  opened : Forest → Opened
  shut : Refusal → ℕ → Opened

abbrev pub decoded : Option Forest → Opened
decoded none = shut NotASheet 0
decoded (some ns) = opened ns

abbrev pub unless_foreign : Option ℕ → Opened → Opened
unless_foreign none o = o
unless_foreign (some i) o = shut BadForm i

-- 1: the text is too long; 2: a byte that no script holds
abbrev pub after_text : List ℕ → Opened → Opened
after_text t o = cond (ltb text_limit (length t)) (shut TextTooLong 0) (unless_foreign (foreign_from 0 t) o)

-- then 20: the sheet
unfoldable pub opening : List ℕ → List ℕ → Opened
opening t bs = after_text t (decoded (decode (length t) bs))
