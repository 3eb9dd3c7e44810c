use mathlib.Core.List.{List}
use mathlib.Core.Path.{◌≡◌}
use Prim.Native.Nat.{◌≤◌}
use lib.ListN.{length, take, drop}
use Rattle.text.specs.Words.{find}
use Rattle.books.specs.Book.{Item, names}
use Rattle.book.specs.Means.{Rows}
use Rattle.book.proofs.find_name.Given as goal

abbrev pub invariant-loop-k : goal.invariant-loop-k
invariant-loop-k l =
    (xs : List Item) → Rows l.text l.table xs → l.n ≤ length xs → find (take l.n (names xs)) 0 l.word ≡ find (drop l.k (take l.n (names xs))) l.k l.word
