use Prim.Native.Nat.{ℕ}
use mathlib.Core.List.{List}
use mathlib.Core.Path.{◌≡◌}
use lib.ListN.{drop, length}
use Rattle.text.specs.WriteMeans.{Puts}
use Rattle.page.proofs.put_word.Given as goal

abbrev pub invariant-loop-b : goal.invariant-loop-b
invariant-loop-b l = (length l.out ≡ length l.initial.out) × ((after : List ℕ) (e : ℕ) → Puts l.out l.end (drop l.b-index l.word) after e → Puts l.initial.out l.at l.word after e)
