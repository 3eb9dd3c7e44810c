-- What the parts of the converter do. Contracts cite this, and no reader needs to believe it.
use Rattle.std.specs.Prelude.{ℕ, List, ◌≡◌}
use Rattle.std.proofs.Math.Option.{some}
use Rattle.sheet.specs.Sheet.{Forest, decode}
use Rattle.sheet_decode.specs.Means.{Reads}
use Rattle.sheet_records.specs.Means.{record_form, record_view}
use Rattle.sheet_records.specs.declared.Kind.{Kind}
use Rattle.converting.specs.Convert.{converted_sheet}

-- the bytes are a sheet for a text of n bytes
pub record IsSheet (n : ℕ) (s : List ℕ) : Type 0 where
  pub tree : Forest
  pub decodes : decode n s ≡ some tree

-- the record at a place is passed: next is the place behind it
pub record PassesRecord (n : ℕ) (s : List ℕ) (at next : ℕ) : Type 0 where
  pub kind : Kind
  pub number : ℕ
  pub entries : ℕ
  pub reads : Reads (record_form n) record_view s at (kind, number, entries) next

-- of a sheet, the converted one
abbrev pub Converts : ℕ → List ℕ → List ℕ → Type 0
Converts n s after = (ns : Forest) → decode n s ≡ some ns → after ≡ converted_sheet n ns
