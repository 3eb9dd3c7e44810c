-- A book that is held, and the names in its table.
use Prim.Native.Nat.{ℕ, suc, ◌+◌, ◌≤◌, ◌<◌}
use mathlib.Core.List.{List, [], ◌∷◌}
use mathlib.Core.Option.{some}
use mathlib.Core.Path.{◌≡◌, sym, ap, ◌∙◌}
use native.Mathlib.Omega.{arith}
use lib.ListN.{length, take}
use lib.Seq.{take_all}
use Rattle.text.specs.Bytes.{same}
use Rattle.text.specs.Words.{find}
use Rattle.text.specs.Means.{place_of}
use Rattle.std.specs.Prelude.{Option}
use Rattle.text.proofs.WordLaws.{find-here, find_past}
use Rattle.text.proofs.CaseLaws.{Case, yes!, no!, case}
use Rattle.books.specs.Book.{Item, Book, held, names, item_limit, book}
use Rattle.book.specs.Means.{Rows, Held}
use Rattle.book.specs.declared.Row as row
use Rattle.book.proofs.TableLaws.{names-long}
use Rattle.book.proofs.BookLaws.{given}

-- what is found is an ordinal
pub find_low : (l : List (List ℕ)) (i k : ℕ) (w : List ℕ) → find l i w ≡ some k → k < i + length l
unfolding find
find_low [] i k w e = absurd (let z : ◌≡◌ {A = ℕ} 0 1 = cc in omega arith)
find_low (x ∷ l) i k w e = go (λ f. find_low l (suc i) k w f) (case (same w x))
  where
    go : (find l (suc i) w ≡ some k → k < suc i + length l) → Case (same w x) → k < i + suc (length l)
    go ih (yes! t) = let q : i ≡ k = cc (sym (find-here w x l i t) ∙ e) in omega arith
    go ih (no! f) = omega (arith, ih (sym (find_past w x l i f) ∙ e))

module _ {s : List ℕ} {table : List row.Row} {v : Book} {n : ℕ} (h : Held s table v n) where
  -- its items are those
  pub held_same : (xs : List Item) → v ≡ held xs → h.items ≡ xs
  held_same xs e = let q : held h.items ≡ held xs = sym h.is ∙ e in cc

  all-names : take n (names h.items) ≡ names h.items
  all-names = take_all n (names h.items) (omega (arith, h.count, names-long h.items))

  -- what a search among the names finds
  pub found_in : (r : Option ℕ) (w : List ℕ)
      → ((xs : List Item) → Rows s table xs → n ≤ length xs → place_of r ≡ find (take n (names xs)) 0 w)
      → place_of r ≡ find (names h.items) 0 w
  found_in r w f = f h.items h.rows (omega (arith, h.count)) ∙ ap (λ (l : List (List ℕ)). find l 0 w) all-names

  pub found_for : (r : Option ℕ) (w : List ℕ)
      → ((xs : List Item) → Rows s table xs → n ≤ length xs → place_of r ≡ find (take n (names xs)) 0 w)
      → (xs : List Item) → v ≡ held xs → place_of r ≡ find (names xs) 0 w
  found_for r w f xs e = found_in r w f ∙ ap (λ (l : List Item). find (names l) 0 w) (held_same xs e)

  pub found_low : {j : ℕ} (w : List ℕ) → some j ≡ find (names h.items) 0 w → j < n
  found_low {j} w e = omega (arith, find_low (names h.items) 0 j w (sym e), names-long h.items, h.count)

module _ {t : List ℕ} {table : List row.Row} {n : ℕ} (h : Held t table (book t) n) where
  pub few_items : n ≤ item_limit
  few_items = omega (arith, (given t h.items h.is).few, h.count)

  pub short_text : length t ≤ 16384
  short_text = (given t h.items h.is).short
