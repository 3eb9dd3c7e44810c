-- The listing of a book that was read.
use Prim.Native.Nat.{ℕ}
use mathlib.Core.List.{List}
use mathlib.Core.Option.{Option}
use mathlib.Core.Path.{◌≡◌, ap, ◌∙◌}
use native.Mathlib.Omega.{arith}
use lib.ListN.{length}
use Rattle.error.specs.declared.Refusal.{Refusal}
use Rattle.books.specs.Book.{wrong, book}
use Rattle.book.specs.Means.{Held}
use Rattle.book.specs.declared.Row as row
use Rattle.order.specs.Order.{order}
use Rattle.order.specs.Means.{calls_in, Square}
use Rattle.order.proofs.SameLaws.{order_same}
use Rattle.books.specs.Calls.{calls}
use Rattle.calls.specs.Means.{Filled}
use Rattle.book.proofs.HeldLaws.{few_items}
use Rattle.books.specs.Listing.{ordered, listing_of, listing}
use Rattle.error.specs.declared.OrderAnswer.{OrderAnswer}
use Rattle.error.specs.declared.OrderAnswer.TheVariants as answer

-- ---- a book that is held

module _ {t : List ℕ} {table : List row.Row} {n : ℕ} (h : Held t table (book t) n) where
  pub square : {m : List ℕ} → Filled t h.items m n → Square m n
  square f = record { size = f.size; few = few_items h }

  module _ {m : List ℕ} (f : Filled t h.items m n) (out : List ℕ) where
    same-order : order (calls_in m) n ≡ order (calls t h.items) (length h.items)
    same-order =
        order_same (calls_in m) (calls t h.items) n (λ i j l r. f.is i j l (omega (arith, few_items h)))
        ∙ ap (order (calls t h.items)) h.count

    pub listed : {o : Option (List ℕ)} {x : OrderAnswer × List ℕ} → o ≡ order (calls_in m) n
        → x ≡ ordered out o → x ≡ listing_of t out (book t)
    listed g k = rw (h.is, ← (g ∙ same-order)) k

pub listing_wrong : (t out : List ℕ) {r : Refusal} {p : ℕ} → book t ≡ wrong r p
    → Prim.Path (OrderAnswer × List ℕ) (answer.Refused r p, out) (listing t out)
unfolding listing
listing_wrong t out e = rw e

pub listing-held : (t out : List ℕ) {x : OrderAnswer × List ℕ} → x ≡ listing_of t out (book t) → x ≡ listing t out
unfolding listing
listing-held t out e = e
