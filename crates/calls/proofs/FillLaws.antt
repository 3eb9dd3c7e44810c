-- The calls of a book, item by item.
use Prim.Native.Nat.{ℕ, ◌+◌, ◌≤◌, ◌<◌}
use mathlib.Core.List.{List}
use mathlib.Core.Option.{some}
use mathlib.Core.Path.{◌≡◌, sym, ap, ◌∙◌, subst}
use native.Mathlib.Omega.{arith}
use lib.ListN.{length, replicate, length-replicate, get_elem?}
use Rattle.text.specs.Bytes.{part}
use Rattle.error.specs.declared.Refusal.{Refusal}
use Rattle.ast.specs.Tree.{map_times}
use Rattle.sheet.specs.Sheet.{Forest, decode}
use Rattle.grammar.specs.Rule.{refused}
use Rattle.grammar.specs.Grammar.{stored}
use Rattle.read_cursor.specs.Means.{nothing, Begins, run}
use Rattle.read_cursor.specs.declared.Cursor.{Cursor}
use Rattle.books.specs.Book.{Item, item, held, names, book}
use Rattle.book.specs.Means.{ItemWent, Held}
use Rattle.book.specs.declared.Row as row
use Rattle.book.specs.declared.Item as code
use Rattle.book.proofs.TableLaws.{names-long}
use Rattle.book.proofs.HeldLaws.{held_same, few_items}
use Rattle.book.proofs.BookLaws.{Walked, walked_start, Given, given, never_refused, next-item}
use Rattle.books.specs.Calls.{presets, ordinals, calls}
use Rattle.calls.specs.Means.{marks, Sheet, Filled}
use Rattle.calls.proofs.MarkLaws.{ordinals_low, filled_none, filled_more}
use Rattle.calls.proofs.NodeLaws.{presets-same}
use Rattle.calls.proofs.BodyLaws.{body-sheet}

-- the calls of i items of n are noted
pub record Filling (t m sheet : List ℕ) (c : Cursor) (i n : ℕ) : Type 0 where
  pub room : length sheet ≡ 49152
  pub walked : Walked t c i
  pub size : length m ≡ 16384
  pub filled : (xs : List Item) → book t ≡ held xs → Filled t xs m i
  pub low : i ≤ n

pub filling_start : {t m sheet : List ℕ} {c : Cursor} {n : ℕ} → Begins t 0 nothing 0 c → m ≡ replicate 16384 0 → length sheet ≡ 49152
    → Filling t m sheet c 0 n
filling_start {t} {m} b e h = record {
  room = h;
  walked = (walked_start b).0;
  size = ap length e ∙ length-replicate {A = ℕ} 16384 0;
  filled = λ xs f. filled_none t xs m e;
  low = omega arith;
}

module _ {t : List ℕ} {table : List row.Row} {n : ℕ} (h : Held t table (book t) n) where
  the-given : Given t h.items
  the-given = given t h.items h.is

  module _ {m sheet : List ℕ} {c : Cursor} {i : ℕ} (f : Filling t m sheet c i n) (l : i < n) where
    pub filling_refused : {r : Refusal} {p : ℕ} → run t c item ≡ refused r p → ⊥
    filling_refused e = never_refused the-given f.walked (omega (arith, h.count)) e

    pub filling_sheet : {a : List ℕ} {x : code.Item} → ItemWent t sheet a c x → Sheet (length t) (part a 0 x.body.bytes)
    filling_sheet g = record { tree = map_times stored g.value.nodes; decodes = body-sheet the-given.short f.room g }

    pub filling_more : {a m' : List ℕ} {x : code.Item} → (g : ItemWent t sheet a c x) → length a ≡ 49152
        → ((xs : List Item) → book t ≡ held xs → (ns : Forest) → decode (length t) (part a 0 x.body.bytes) ≡ some ns
        → m' ≡ marks m i (ordinals (names xs) (presets t ns)))
        → length m' ≡ 16384 → Filling t m' a x.body.next (i + 1) n
    unfolding calls
    filling_more {a} {m'} {x} g r k q =
        let w = next-item the-given f.walked (omega (arith, h.count)) g in
        record {
          room = r;
          walked = w.0;
          size = q;
          filled = λ xs e. of xs e (subst (λ (ys : List Item). get_elem? ys i ≡ some g.value) (held_same h xs e) w.1);
          low = omega arith;
        }
      where
        of : (xs : List Item) → book t ≡ held xs → get_elem? xs i ≡ some g.value → Filled t xs m' (i + 1)
        of xs e y =
            let js = ordinals (names xs) (presets t (map_times stored g.value.nodes)) in
            let o = given t xs e in
            subst (λ (z : List ℕ). Filled t xs z (i + 1))
            (sym (k xs e (map_times stored g.value.nodes) (body-sheet the-given.short f.room g)))
            (filled_more js (f.filled xs e) (omega (arith, few_items h))
            (ordinals_low (names xs) (presets t (map_times stored g.value.nodes)) (omega (arith, names-long xs, o.few)))
            (λ j. rw (y, presets-same t g.value.nodes)))

  pub filling_done : {m sheet : List ℕ} {c : Cursor} {i : ℕ} → Filling t m sheet c i n → n ≤ i → (xs : List Item) → book t ≡ held xs
      → Filled t xs m n
  filling_done {m} {i = i} f l xs e = let q : i ≡ n = omega (arith, f.low) in subst (λ (k : ℕ). Filled t xs m k) q (f.filled xs e)
