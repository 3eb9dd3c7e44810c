-- What the answers of the code mean. Contracts cite these, and no reader needs to believe it.
use Rattle.std.specs.Prelude.{ℕ, ◌-◌, List}
use Rattle.std.proofs.Math.Option.{Option, none, some}
use Rattle.books.specs.Book.{Item, Book, held, wrong}
use Rattle.books.specs.Lookup.{named}
use Rattle.book_answers.specs.declared.Place.{Place}
use Rattle.book_answers.specs.declared.Place.TheVariants as place

-- where a book has a name
abbrev pub placed : Option Item → Place
placed none = place.Nothing
placed (some x) = place.At x.start (x.end - x.start)

abbrev pub looked : List ℕ → Book → Place
looked w (wrong r p) = place.Refused r p
looked w (held xs) = placed (named xs w)
