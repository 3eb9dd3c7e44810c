use Prim.Native.Nat.{◌-◌, ◌≤◌}
use mathlib.Core.Option.{some}
use mathlib.Core.Path.{◌≡◌}
use lib.ListN.{length}
use Rattle.sheet.specs.Records.{all_records}
use Rattle.sheet.specs.Sheet.{Forest, decode}
use Rattle.page.proofs.PageLaws.{Going}
use Rattle.page.proofs.put_lines.Given as goal

abbrev pub invariant-loop-page : goal.invariant-loop-page
invariant-loop-page l =
    (l.start ≤ l.end) × (l.ordinal ≤ l.end) × (length l.page ≡ length l.initial.page)
    × ((ns : Forest) → decode l.text_len l.sheet ≡ some ns
    → Going l.text_len l.sheet (all_records l.text_len ns) l.count l.initial.page l.page l.ordinal l.start l.end l.at)

abbrev pub decreases-loop-page : goal.decreases-loop-page
decreases-loop-page l = length l.sheet - l.end
