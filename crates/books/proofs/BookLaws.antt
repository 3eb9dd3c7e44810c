-- 02 (i): "then 37 the same name twice, then 38 a 129th item".
use Prim.Native.Nat.{◌<◌}
use mathlib.Core.Bool.{true, false}
use mathlib.Core.List.{List}
use mathlib.Core.Path.{◌≡◌}
use borrow.Author.Tests.{lt-ltb}
use lib.ListN.{length}
use Rattle.error.specs.declared.Refusal.TheVariants.{NameTwice, TooManyItems}
use Rattle.books.specs.Book.{Item, held, wrong, names, repeated, item_limit, settled}

-- 37, however many items there are
pub twice_first : (xs : List Item) → repeated (names xs) ≡ true → settled (held xs) ≡ wrong NameTwice 0
twice_first xs e = rw e

-- 38, where no name stands twice
pub many-next : (xs : List Item) → repeated (names xs) ≡ false → 128 < length xs → settled (held xs) ≡ wrong TooManyItems 0
many-next xs e h = rw (e, lt-ltb item_limit (length xs) h)
