use Prim.Native.Nat.{◌-◌}
use mathlib.Core.Path.{◌≡◌}
use lib.ListN.{length}
use Rattle.book.proofs.BookLaws.{Reading}
use Rattle.read_cursor.specs.WordMeans.{at_of}
use Rattle.book.proofs.parse_items.Given as goal

abbrev pub invariant-loop-sheet : goal.invariant-loop-sheet
invariant-loop-sheet l = (length l.sheet ≡ 1) × Reading l.text l.table l.c l.n

abbrev pub decreases-loop-sheet : goal.decreases-loop-sheet
decreases-loop-sheet l = length l.text - at_of l.c
