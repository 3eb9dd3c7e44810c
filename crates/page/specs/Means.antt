-- What the lines of a sheet's records are on a page. Contracts cite this, and no reader needs to believe it.
use Rattle.std.specs.Prelude.{ℕ, List, ◌≡◌}
use Rattle.std.proofs.Math.Option.{some}
use Rattle.text.specs.WriteMeans.{Puts}
use Rattle.sheet.specs.Sheet.{Forest, decode}
use Rattle.sheet.specs.Records.{all_records}
use Rattle.script.specs.Output.{line_bytes}
use Rattle.script.specs.Means.{lines_of}

-- for a sheet s of a text of n bytes: the page, with the lines and what follows them at its front, is `after`, and they end at `end`
abbrev pub Lines : (n : ℕ) (s : List ℕ) (count : ℕ) (page after : List ℕ) (end : ℕ) → Type 0
Lines n s count page after end =
    (ns : Forest) → decode n s ≡ some ns → Puts page 0 (lines_of line_bytes count 0 (all_records n ns)) after end
