use mathlib.Core.Bool.{false}
use mathlib.Core.List.{List}
use mathlib.Core.Path.{◌≡◌}
use lib.ListN.{length, take}
use Rattle.books.specs.Book.{Item, names, repeated}
use Rattle.book.specs.Means.{Rows}
use Rattle.book.proofs.has_twice.Given as goal

abbrev pub invariant-loop-k : goal.invariant-loop-k
invariant-loop-k l = (xs : List Item) → Rows l.text l.table xs → l.n ≡ length xs → repeated (take l.k (names xs)) ≡ false
