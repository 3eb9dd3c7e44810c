-- Where a book has a name, and a lookup in two.
use Prim.Native.Nat.{ℕ, ◌<◌}
use mathlib.Core.List.{List, [], ◌∷◌}
use mathlib.Core.Option.{none, some}
use mathlib.Core.Path.{◌≡◌, refl}
use native.Mathlib.Omega.{arith}
use lib.ListN.{length, get_elem?}
use Rattle.text.specs.Words.{find}
use Rattle.error.specs.declared.Refusal.{Refusal}
use Rattle.books.specs.Book.{Item, Book, wrong, names, book}
use Rattle.book.specs.Means.{Held, row_at}
use Rattle.book.specs.declared.Row as row
use Rattle.book.proofs.HeldLaws.{found_low}
use Rattle.books.specs.Lookup.{in_books, looking_up}
use Rattle.book_answers.specs.Means.{placed, looked}
use Rattle.book_answers.specs.declared.Place.TheVariants as place
use Rattle.error.specs.declared.LookupAnswer.{LookupAnswer}

-- ---- one book

module _ {s : List ℕ} {table : List row.Row} {v : Book} {n : ℕ} (h : Held s table v n) (w : List ℕ) where
  pub looked_none : none ≡ find (names h.items) 0 w → place.Nothing ≡ looked w v
  looked_none e = rw (h.is, ← e)

  pub looked-at : {k a b : ℕ} → some k ≡ find (names h.items) 0 w → a ≡ (row_at table k).start → b ≡ (row_at table k).size
      → place.At a b ≡ looked w v
  looked-at {k} {a} {b} e f g = rw (h.is, ← e) (go (item-at h.items k (omega (arith, found_low h w e, h.count))))
    where
      item-at : (xs : List Item) (k : ℕ) → k < length xs → (y : Item) × (get_elem? xs k ≡ some y)
      item-at [] k l = absurd (omega arith)
      item-at (x ∷ xs) ℕ.zero l = (x, refl)
      item-at (x ∷ xs) (ℕ.suc k) l = item-at xs k (omega arith)

      go : (y : Item) × (get_elem? h.items k ≡ some y) → place.At a b ≡ placed (get_elem? h.items k)
      go y = let r = h.rows.row k y.0 y.1 in rw (y.1, f, g, r.start, r.size)

-- ---- both books

pub looked_up : (s c w : List ℕ) {r : LookupAnswer} → r ≡ in_books w (book s) (book c) → r ≡ looking_up s c w
unfolding looking_up
looked_up s c w e = e

pub looked_wrong : (s w : List ℕ) {r : Refusal} {p : ℕ} → book s ≡ wrong r p → place.Refused r p ≡ looked w (book s)
looked_wrong s w e = rw e
