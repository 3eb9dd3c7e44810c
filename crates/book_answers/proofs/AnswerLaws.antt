-- Lookups, from what each of the two books has; and the output of a listing, with an order or without.
use Prim.Native.Nat.{ℕ, suc, ◌+◌, ◌≤◌, ◌<◌}
use mathlib.Core.Bool.{Bool, true, false}
use mathlib.Core.List.{List, ◌++◌}
use mathlib.Core.Option.{Option, none, some}
use mathlib.Core.Path.{◌≡◌, refl, ◌∙◌}
use native.Mathlib.Numerals.{add-one}
use native.Mathlib.Omega.{arith}
use borrow.Author.Tests.{le-ltb, lt-ltb}
use lib.ListN.{length, take, drop, set, get_or}
use lib.Seq.{length-take-le, paste-suc}
use Rattle.error.specs.declared.Refusal.TheVariants.{NoSuchItem, RingOfCalls, OutputTooShort}
use Rattle.error.specs.declared.LookupAnswer.{LookupAnswer}
use Rattle.error.specs.declared.LookupAnswer.TheVariants as lookup
use Rattle.error.specs.declared.OrderAnswer.{OrderAnswer}
use Rattle.error.specs.declared.OrderAnswer.TheVariants as answer
use Rattle.order.specs.Means.{list_of}
use Rattle.books.specs.Book.{Item, Book, held, wrong}
use Rattle.books.specs.Lookup.{named, found, in_books}
use Rattle.books.specs.Listing.{put, ordered}
use Rattle.book_answers.specs.Means.{placed, looked}
use Rattle.book_answers.specs.declared.Place.{Place}
use Rattle.book_answers.specs.declared.Place.TheVariants as place

-- ---- both books

-- what they come to
abbrev pub join : Place → Place → LookupAnswer
join (place.Refused r p) c = lookup.Refused r p
join (place.At a b) (place.Refused r p) = lookup.Refused r p
join (place.At a b) (place.At x y) = lookup.InStore a b
join (place.At a b) place.Nothing = lookup.InStore a b
join place.Nothing (place.Refused r p) = lookup.Refused r p
join place.Nothing (place.At a b) = lookup.InChain a b
join place.Nothing place.Nothing = lookup.Refused NoSuchItem 0

joined : (w : List ℕ) (x y : Book) → join (looked w x) (looked w y) ≡ in_books w x y
joined w (wrong r p) y = refl
joined w (held xs) (wrong r p) = go (named xs w)
  where
    go : (x : Option Item) → join (placed x) (place.Refused r p) ≡ lookup.Refused r p
    go (some x) = refl
    go none = refl
joined w (held xs) (held ys) = go (named xs w) (named ys w)
  where
    go : (x y : Option Item) → join (placed x) (placed y) ≡ found x y
    go (some x) (some y) = refl
    go (some x) none = refl
    go none (some y) = refl
    go none none = refl

pub answers : (w : List ℕ) (x y : Book) {a b : Place} → a ≡ looked w x → b ≡ looked w y → join a b ≡ in_books w x y
answers w x y {a} {b} e f = (λ i. join (e i) (f i)) ∙ joined w x y

-- ---- the output of a listing

module _ (out from : List ℕ) (n : ℕ) (h : n ≤ length from) where
  pub put_short : length out < n → Prim.Path (OrderAnswer × List ℕ) (answer.Refused OutputTooShort 0, out) (put out (take n from))
  put_short l = rw (length-take-le n from h, lt-ltb (length out) n l)

  pub put-whole : {a : List ℕ} → n ≤ length out → a ≡ take n from ++ drop n out
      → Prim.Path (OrderAnswer × List ℕ) (answer.Listed n, a) (put out (take n from))
  put-whole l e = rw (length-take-le n from h, le-ltb (length out) n l, e)

pub copied : (out from : List ℕ) (i : ℕ) → i < length out → i < length from
    → set (take i from ++ drop i out) i (get_or from i 0) ≡ take (i + 1) from ++ drop (i + 1) out
copied out from i h g =
    let e : 0 + i ≡ i = omega arith in
    let f : 0 + suc i ≡ suc i = omega arith in
    rw add-one (rw (e, f) at (paste-suc out 0 from i 0 (omega arith) g))

-- ---- the order

module _ (out l : List ℕ) {b : Bool} where
  pub ring : b ≡ false → Prim.Path (OrderAnswer × List ℕ) (answer.Refused RingOfCalls 0, out) (ordered out (list_of b l))
  ring e = rw e

  pub in_order : {x : OrderAnswer × List ℕ} → b ≡ true → x ≡ put out l → x ≡ ordered out (list_of b l)
  in_order e f = rw e f
