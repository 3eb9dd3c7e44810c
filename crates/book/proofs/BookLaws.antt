-- A book's items one after the other, and the refusals in their order.
use Prim.Native.Nat.{ℕ, zero, suc, ◌+◌, ◌*◌, ◌-◌, ◌≤◌, ◌<◌}
use mathlib.Core.Bool.{Bool, true, false, cond}
use mathlib.Core.List.{List, [], ◌∷◌, ◌++◌, append-nil, append_assoc}
use mathlib.Core.Option.{Option, none, some}
use mathlib.Core.Path.{◌≡◌, refl, sym, ap, ◌∙◌, subst}
use native.Mathlib.Omega.{arith}
use borrow.Author.Tests.{le-ltb, lt-ltb, ltb-false}
use lib.Dec.{ltb}
use lib.ListN.{length, get_elem?, set, length-append}
use Rattle.text.specs.Limits.{text_limit}
use Rattle.error.specs.declared.Refusal.{Refusal}
use Rattle.error.specs.declared.Refusal.TheVariants.{TextTooLong, Leftover, NameTwice, TooManyItems}
use Rattle.token.specs.Token.{Token, tokens_from}
use Rattle.token.specs.Split.{Split, unlexed, tokens, split}
use Rattle.token.specs.Means.{split_outcome, splitting, answer_of}
use Rattle.token.specs.declared.SplitAnswer.{SplitAnswer}
use Rattle.token.specs.declared.SplitAnswer.TheVariants as answer
use Rattle.token.proofs.StreamLaws.{split-reads}
use Rattle.grammar.specs.Rule.{Notes, Out, got, refused, ends, iterate}
use Rattle.read_cursor.specs.WordMeans.{at_of, left_at, rounded_of}
use Rattle.read_cursor.specs.Means.{nothing, left_of, left_is, Ready, Begins, notes, run}
use Rattle.read_cursor.specs.Means as cursor
use Rattle.read_cursor.specs.declared.Cursor.{Cursor}
use Rattle.read_cursor.specs.declared.Left.TheVariants as left
use Rattle.books.specs.Book.{Item, item, items_step, items, Book, held, wrong, unless_left, finished}
use Rattle.books.specs.Book.{fresh, parsed, written, names, repeated, settled, item_limit, book}
use Rattle.book.specs.Means.{ItemWent, row_of, Rows, Held, items_of}
use Rattle.book.specs.declared.Item as code
use Rattle.book.specs.declared.Row as row
use Rattle.book.proofs.TableLaws.{rows_none, rows_more}

-- ---- the items

-- n items are passed up to c
pub record Walked (s : List ℕ) (c : Cursor) (n : ℕ) : Type 0 where
  pub list : List Item
  pub is : items (fresh (length s)) (tokens_from s 0) ≡ iterate items_step (suc (length s) - n) list (notes s c) (cursor.tokens s c)
  pub count : n ≡ length list
  pub low : 3 * n ≤ at_of c
  pub ready : Ready s c

-- and their rows are written
pub record Reading (s : List ℕ) (table : List row.Row) (c : Cursor) (n : ℕ) : Type 0 where
  pub walked : Walked s c n
  pub rows : Rows s table walked.list

fresh-notes : (s : List ℕ) (c : Cursor) → left_at c ≡ nothing → rounded_of c ≡ 0 → notes s c ≡ fresh (length s)
unfolding left_of
fresh-notes s c l r = rw (l, r)

pub walked_start : {s : List ℕ} {c : Cursor} → Begins s 0 nothing 0 c → (w : Walked s c 0) × (w.list ≡ [])
unfolding items
walked_start {s} {c} b = (
  record {
    list = [];
    is = let q : suc (length s) - 0 ≡ suc (length s) = omega arith in rw (fresh-notes s c b.left b.rounded, b.is, q);
    count = refl;
    low = omega arith;
    ready = b.ready;
  },
  refl,
)

pub reading-start : {s : List ℕ} {table : List row.Row} {c : Cursor} → Begins s 0 nothing 0 c → length table ≡ 5461 → Reading s table c 0
reading-start {s} {table} b h =
    let w = walked_start b in
    record { walked = w.0; rows = subst (λ (l : List Item). Rows s table l) (sym w.1) (rows_none h) }

module _ {s : List ℕ} {c : Cursor} {n : ℕ} (w : Walked s c n) where
  left_over : suc (length s - n) ≡ suc (length s) - n
  left_over = omega (arith, w.low, w.ready.high)

  -- one step more
  stepped : (j : ℕ) → suc j ≡ suc (length s) - n
      → items (fresh (length s)) (tokens_from s 0) ≡ iterate items_step (suc j) w.list (notes s c) (cursor.tokens s c)
  stepped j e = w.is ∙ ap (λ (k : ℕ). iterate items_step k w.list (notes s c) (cursor.tokens s c)) (sym e)

  pub walked_done : ends (cursor.tokens s c) ≡ true
      → items (fresh (length s)) (tokens_from s 0) ≡ got w.list (notes s c) (cursor.tokens s c)
  unfolding iterate items_step
  walked_done e = stepped (length s - n) left_over ∙ rw e

  pub walked_refused : {q : Refusal} {p : ℕ} → ends (cursor.tokens s c) ≡ false → run s c item ≡ refused q p
      → items (fresh (length s)) (tokens_from s 0) ≡ refused q p
  unfolding iterate items_step
  walked_refused {q} {p} e h = stepped (length s - n) left_over ∙ rw (e, h)

  -- there is room for one more row
  pub walked_room : {b a : List ℕ} {x : code.Item} → ItemWent s b a c x → n < 5461
  walked_room g = omega (arith, w.low, g.took.low, g.took.ready.high, g.took.ready.short)

  pub walked_more : {b a : List ℕ} {x : code.Item} → ends (cursor.tokens s c) ≡ false → (g : ItemWent s b a c x)
      → (v : Walked s x.body.next (n + 1)) × (v.list ≡ w.list ++ (g.value ∷ []))
  unfolding iterate items_step
  walked_more {x = x} e g = (
    record {
      list = w.list ++ (g.value ∷ []);
      is = stepped (length s - n) left_over
          ∙ rw (e, g.took.is)
          (let q : length s - n ≡ suc (length s) - (n + 1) = omega arith in
          ap (λ (k : ℕ). iterate items_step k (w.list ++ (g.value ∷ [])) (notes s x.body.next) (cursor.tokens s x.body.next)) q);
      count = let f = length-append w.list (g.value ∷ []) in omega (arith, w.count);
      low = omega (arith, w.low, g.took.low);
      ready = g.took.ready;
    },
    refl,
  )

module _ {s : List ℕ} {table : List row.Row} {c : Cursor} {n : ℕ} (r : Reading s table c n) where
  pub reading_left : {p : ℕ} → ends (cursor.tokens s c) ≡ true → left_is (left.At p) ≡ left_of (left_at c) → items_of s ≡ wrong Leftover p
  reading_left e h = ap finished (walked_done r.walked e) ∙ ap (unless_left r.walked.list) (sym h)

  pub reading_done : ends (cursor.tokens s c) ≡ true → left_is left.Nothing ≡ left_of (left_at c) → Held s table (items_of s) n
  reading_done e h = record {
    items = r.walked.list;
    is = ap finished (walked_done r.walked e) ∙ ap (unless_left r.walked.list) (sym h);
    rows = r.rows;
    count = r.walked.count;
  }

  pub reading_refused : {q : Refusal} {p : ℕ} → ends (cursor.tokens s c) ≡ false → run s c item ≡ refused q p → items_of s ≡ wrong q p
  reading_refused e h = ap finished (walked_refused r.walked e h)

  pub reading-more : {b a : List ℕ} {x : code.Item} → ends (cursor.tokens s c) ≡ false → ItemWent s b a c x
      → Reading s (set table n (row_of x)) x.body.next (n + 1)
  reading-more {x = x} e g =
      let v = walked_more r.walked e g in
      record { walked = v.0; rows = rw v.1 (rows_more r.rows g.same r.walked.count (walked_room r.walked g)) }

-- ---- a book that is held, walked once more

-- what the grammar gave
pub record Given (s : List ℕ) (xs : List Item) : Type 0 where
  pub notes : Notes
  pub left : List Token
  pub is : items (fresh (length s)) (tokens_from s 0) ≡ got xs notes left
  pub few : length xs ≤ item_limit
  pub short : length s ≤ text_limit

data Within (xs : List Item) (v : Book) : Type 0 where
  within : v ≡ held xs → length xs ≤ item_limit → Within xs v

pub given : (s : List ℕ) (xs : List Item) → book s ≡ held xs → Given s xs
unfolding book
given s xs e = long (ltb text_limit (length s)) refl (settle (written s) refl e)
  where
    settle : (v : Book) → written s ≡ v → settled v ≡ held xs → Within xs (written s)
    settle (wrong r p) f e = absurd (let z : ◌≡◌ {A = ℕ} 0 1 = cc in omega arith)
    settle (held ys) f e = twice (repeated (names ys)) e
      where
        many : (b : Bool) → ltb item_limit (length ys) ≡ b → cond b (wrong TooManyItems 0) (held ys) ≡ held xs → Within xs (written s)
        many true g e = absurd (let z : ◌≡◌ {A = ℕ} 0 1 = cc in omega arith)
        many false g e =
            let q : ys ≡ xs = cc in within (f ∙ e) (subst (λ (zs : List Item). length zs ≤ item_limit) q (ltb-false item_limit (length ys) g))

        twice : (b : Bool) → cond b (wrong NameTwice 0) (cond (ltb item_limit (length ys)) (wrong TooManyItems 0) (held ys)) ≡ held xs
            → Within xs (written s)
        twice true e = absurd (let z : ◌≡◌ {A = ℕ} 0 1 = cc in omega arith)
        twice false e = many (ltb item_limit (length ys)) refl e

    long : (b : Bool) → ltb text_limit (length s) ≡ b → Within xs (cond b (wrong TextTooLong 0) (parsed (length s) (split s))) → Given s xs
    long true g (within e h) = absurd (let z : ◌≡◌ {A = ℕ} 0 1 = cc in omega arith)
    long false g (within e h) = by (split s) refl e
      where
        left : (ys : List Item) (l : Notes) (us ts : List Token) → split s ≡ tokens ts → items (fresh (length s)) ts ≡ got ys l us
            → (o : Option ℕ) → l.leftover ≡ o → unless_left ys o ≡ held xs → Given s xs
        left ys l us ts f i none n e =
            let q : ys ≡ xs = cc in
            record {
              notes = l;
              left = us;
              is = ap (items (fresh (length s))) (split-reads s ts f) ∙ i ∙ ap (λ (zs : List Item). got zs l us) q;
              few = h;
              short = ltb-false text_limit (length s) g;
            }
        left ys l us ts f i (some p) n e = absurd (let z : ◌≡◌ {A = ℕ} 0 1 = cc in omega arith)

        on : (ts : List Token) → split s ≡ tokens ts → (x : Out (List Item))
            → items (fresh (length s)) ts ≡ x → finished x ≡ held xs
            → Given s xs
        on ts f (got ys l us) i e = left ys l us ts f i l.leftover refl e
        on ts f (refused r p) i e = absurd (let z : ◌≡◌ {A = ℕ} 0 1 = cc in omega arith)

        by : (x : Split) → split s ≡ x → parsed (length s) x ≡ held xs → Given s xs
        by (unlexed r p) f e = absurd (let z : ◌≡◌ {A = ℕ} 0 1 = cc in omega arith)
        by (tokens ts) f e = on ts f (items (fresh (length s)) ts) refl e

-- what is read first stands first
prefix : (k : ℕ) (ys xs : List Item) (l m : Notes) (ts us : List Token) → iterate items_step k ys l ts ≡ got xs m us
    → (rest : List Item) × (xs ≡ ys ++ rest)
unfolding iterate items_step
prefix zero ys xs l m ts us e = ([], (let q : ys ≡ xs = cc in sym q ∙ sym (append-nil ys)))
prefix (suc k) ys xs l m ts us e = go (λ zs n vs. prefix k zs xs n m vs us) (ends ts) refl (item l ts) refl e
  where
    go : ((zs : List Item) (n : Notes) (vs : List Token) → iterate items_step k zs n vs ≡ got xs m us
        → (rest : List Item) × (xs ≡ zs ++ rest))
        → (b : Bool) → ends ts ≡ b → (o : Out Item) → item l ts ≡ o → iterate items_step (suc k) ys l ts ≡ got xs m us
        → (rest : List Item) × (xs ≡ ys ++ rest)
    go ih true f o i e = ([], (let g = rw f at e in let q : ys ≡ xs = cc in sym q ∙ sym (append-nil ys)))
    go ih false f (refused r p) i e = absurd (let g = rw (f, i) at e in let z : ◌≡◌ {A = ℕ} 0 1 = cc in omega arith)
    go ih false f (got x n vs) i e =
        let r = ih (ys ++ (x ∷ [])) n vs (rw (f, i) at e) in
        (x ∷ r.0, r.1 ∙ append_assoc ys (x ∷ []) r.0)

at_seam : (l : List Item) (y : Item) (r : List Item) → get_elem? ((l ++ (y ∷ [])) ++ r) (length l) ≡ some y
at_seam [] y r = refl
at_seam (x ∷ l) y r = at_seam l y r

stands : {xs ys : List Item} {n : ℕ} (l : List Item) (y : Item) (r : List Item) → xs ≡ ys ++ r → ys ≡ l ++ (y ∷ []) → n ≡ length l
    → get_elem? xs n ≡ some y
stands l y r e f h = rw (e, f, h) (at_seam l y r)

module _ {s : List ℕ} {xs : List Item} (g : Given s xs) {c : Cursor} {n : ℕ} (w : Walked s c n) where
  -- before the last item the text does not end
  pub more-items : n < length xs → ends (cursor.tokens s c) ≡ false
  more-items h = go (ends (cursor.tokens s c)) refl
    where
      go : (b : Bool) → ends (cursor.tokens s c) ≡ b → b ≡ false
      go false e = refl
      go true e =
          let q : got w.list (notes s c) (cursor.tokens s c) ≡ got xs g.notes g.left = sym (walked_done w e) ∙ g.is in
          let f : w.list ≡ xs = cc in
          absurd (omega (arith, w.count, ap length f))

  pub never_refused : {r : Refusal} {p : ℕ} → n < length xs → run s c item ≡ refused r p → ⊥
  never_refused {r} {p} h e =
      let q : Prim.Path (Out (List Item)) (refused r p) (got xs g.notes g.left) = sym (walked_refused w (more-items h) e) ∙ g.is in
      let z : ◌≡◌ {A = ℕ} 0 1 = cc in
      omega arith

  -- the next item
  pub next-item : {b a : List ℕ} {x : code.Item} → n < length xs → (i : ItemWent s b a c x)
      → Walked s x.body.next (n + 1) × (get_elem? xs n ≡ some i.value)
  next-item {x = x} h i =
      let v = walked_more w (more-items h) i in
      let p = prefix (suc (length s) - (n + 1)) v.0.list xs (notes s x.body.next) g.notes (cursor.tokens s x.body.next)
      g.left
      (sym v.0.is ∙ g.is)
      in
      (v.0, stands w.list i.value p.0 p.1 v.1 w.count)

-- ---- the text rules first

pub too_long : (s : List ℕ) → text_limit < length s → written s ≡ wrong TextTooLong 0
too_long s h = rw (lt-ltb text_limit (length s) h)

-- what splitting answers, of a scratch of 64 words
module _ (s scratch : List ℕ) (h : length s ≤ text_limit) (g : length scratch ≡ 64) where
  split_answer : {a : SplitAnswer} {after : List ℕ} → split_outcome a after ≡ splitting s scratch → a ≡ answer_of (split s)
  unfolding splitting
  split_answer e =
      let f : ltb (length scratch) 64 ≡ false = le-ltb (length scratch) 64 (omega arith) in
      ap (λ (p : SplitAnswer × List ℕ). p.0) (rw f at e)

  pub split_refused : {r : Refusal} {p : ℕ} {after : List ℕ}
      → split_outcome (answer.Refused r p) after ≡ splitting s scratch
      → written s ≡ wrong r p
  split_refused {r} {p} e = rw (le-ltb text_limit (length s) h) (go (split s) (split_answer e))
    where
      go : (x : Split) → answer.Refused r p ≡ answer_of x → parsed (length s) x ≡ wrong r p
      go (unlexed q k) e = cc
      go (tokens ts) e = absurd (let z : ◌≡◌ {A = ℕ} 0 1 = cc in omega arith)

  pub split_accepted : {after : List ℕ} → split_outcome answer.Accepted after ≡ splitting s scratch → written s ≡ items_of s
  split_accepted e = rw (le-ltb text_limit (length s) h) (go (split s) refl (split_answer e))
    where
      go : (x : Split) → split s ≡ x → answer.Accepted ≡ answer_of x → parsed (length s) x ≡ items_of s
      go (unlexed q k) f e = absurd (let z : ◌≡◌ {A = ℕ} 0 1 = cc in omega arith)
      go (tokens ts) f e = rw (split-reads s ts f)

-- ---- then names and their number

module _ {s : List ℕ} {table : List row.Row} {n : ℕ} (h : Held s table (written s) n) where
  pub name_twice : true ≡ repeated (names h.items) → book s ≡ wrong NameTwice 0
  unfolding book
  name_twice e = rw (h.is, sym e)

  module _ (e : false ≡ repeated (names h.items)) where
    pub too_many : item_limit < n → book s ≡ wrong TooManyItems 0
    unfolding book
    too_many l = rw (h.is, sym e, lt-ltb item_limit (length h.items) (omega (arith, h.count)))

    pub book-held : n ≤ item_limit → Held s table (book s) n
    unfolding book
    book-held l = record {
      items = h.items;
      is = rw (h.is, sym e, le-ltb item_limit (length h.items) (omega (arith, h.count)));
      rows = h.rows;
      count = h.count;
    }

pub book_wrong : (s : List ℕ) {r : Refusal} {p : ℕ} → written s ≡ wrong r p → book s ≡ wrong r p
unfolding book
book_wrong s e = rw e
