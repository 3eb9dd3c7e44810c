-- 02 (i): the listing of a book's items by their calls: the answer, and the output afterwards.
use Rattle.std.specs.Prelude.{ℕ, cond, List, ◌++◌, ltb, length, drop}
use Rattle.std.proofs.Math.Option.{Option, none, some}
use Rattle.books.specs.Book.{Book, held, wrong, book}
use Rattle.order.specs.Order.{order}
use Rattle.books.specs.Calls.{calls}
use Rattle.error.specs.declared.Refusal.TheVariants.{RingOfCalls, OutputTooShort}
use Rattle.error.specs.declared.OrderAnswer.{OrderAnswer}
use Rattle.error.specs.declared.OrderAnswer.TheVariants as order

-- "one byte each"; "in the listing, 32 at 0 last for a short output"
abbrev pub put : List ℕ → List ℕ → OrderAnswer × List ℕ
put out l = cond (ltb (length out) (length l)) (order.Refused OutputTooShort 0, out) (order.Listed (length l), l ++ drop (length l) out)

-- "then 39 exactly if a ring of calls exists" (the laws of RingLaws)
abbrev pub ordered : List ℕ → Option (List ℕ) → OrderAnswer × List ℕ
ordered out none = (order.Refused RingOfCalls 0, out)
ordered out (some l) = put out l

abbrev pub listing_of : List ℕ → List ℕ → Book → OrderAnswer × List ℕ
listing_of t out (wrong r p) = (order.Refused r p, out)
listing_of t out (held xs) = ordered out (order (calls t xs) (length xs))

-- "this takes one book"
unfoldable pub listing : List ℕ → List ℕ → OrderAnswer × List ℕ
listing t out = listing_of t out (book t)
