-- 02 (i): the items of a book lie in its text, so that starts, sizes, counts and places that a lookup and a listing answer with are small.
use Prim.Native.Nat.{ℕ, zero, suc, ◌≤◌}
use mathlib.Core.Bool.{Bool, true, false, cond}
use mathlib.Core.List.{List, [], ◌∷◌, ◌++◌}
use mathlib.Core.Option.{Option, none, some}
use mathlib.Core.Path.{◌≡◌, refl}
use native.Mathlib.Omega.{arith}
use lib.Dec.{ltb}
use lib.ListN.{length, drop, get_elem?}
use borrow.Author.Tests.{ltb-false}
use Rattle.text.specs.Limits.{text_limit}
use Rattle.text.specs.Words.{find}
use Rattle.codec.proofs.Laws.{All}
use Rattle.token.specs.Token.{Token}
use Rattle.token.specs.Split.{Split, unlexed, tokens, split, closer}
use Rattle.error.specs.declared.Refusal.TheVariants.{TextTooLong, NameTwice, TooManyItems, OutputTooShort}
use Rattle.error.specs.declared.LookupAnswer.{LookupAnswer}
use Rattle.error.specs.declared.LookupAnswer.TheVariants as lookup
use Rattle.error.specs.declared.OrderAnswer.{OrderAnswer}
use Rattle.error.specs.declared.OrderAnswer.TheVariants as order
use Rattle.grammar.specs.Rule.{Notes, Out, got, refused, Rule, after, give, if, ◌>>=◌, ends, leave, inside_byte, Next, more, done, iterate}
use Rattle.grammar.specs.Rule.{next as following}
use Rattle.books.specs.Book.{Item, here, body, item, items_step, items, Book, held, wrong, unless_left, finished, fresh, parsed, written}
use Rattle.books.specs.Book.{names, repeated, item_limit, settled, book}
use Rattle.order.specs.Order as listed
use Rattle.order.proofs.OrderLaws.{listing as is-listing}
use Rattle.books.specs.Calls.{calls}
use Rattle.books.specs.Lookup.{item_at, named, found, in_books, looking_up}
use Rattle.books.specs.Listing.{put, ordered, listing_of, listing}
use Rattle.law_rules.proofs.StayLaws.{State, LeftNear, OutNear, Stays, place-near, the-mark, leaves, a_word_lem, input_stays}
use Rattle.law_unpacked.proofs.Within.{SplitNear, split-near, SplitFew, split_few}

-- ---- what a rule gives

abbrev OutGives : {A : Type 0} → ℕ → (A → Type 0) → Out A → Type 0
OutGives n P (got a l ts) = P a × State n l ts
OutGives n P (refused r p) = p ≤ n

-- whatever the tokens, a rule refuses at a place up to n, or gives what is as P says
record Gives {A : Type 0} (n : ℕ) (P : A → Type 0) (p : Rule A) : Type 0 where
  run : (l : Notes) (ts : List Token) → State n l ts → OutGives n P (p l ts)

anything : {A : Type 0} {n : ℕ} {p : Rule A} → Stays n p → Gives n (λ a. Unit {0}) p
anything {A} {n} {p} x = record { run = λ l ts h. go (p l ts) (x.run l ts h) }
  where
    go : (o : Out A) → OutNear n o → OutGives n (λ a. Unit {0}) o
    go (got a l ts) h = (tt, h)
    go (refused r q) h = h

giving : {A : Type 0} {n : ℕ} (P : A → Type 0) (a : A) → P a → Gives n P (give a)
giving P a x = record { run = λ l ts h. (x, h) }

then : {A B : Type 0} {n : ℕ} {P : A → Type 0} {Q : B → Type 0} {p : Rule A} {f : A → Rule B}
    → Gives n P p → ((a : A) → P a → Gives n Q (f a)) → Gives n Q (p >>= f)
then {A} {B} {n} {P} {Q} {p} {f} x k = record { run = λ l ts h. go (p l ts) (x.run l ts h) }
  where
    go : (o : Out A) → OutGives n P o → OutGives n Q (after o f)
    go (got a l ts) h = (k a h.0).run l ts h.1
    go (refused r q) h = h

tests : {A : Type 0} {n : ℕ} {P : A → Type 0} (test : List Token → Bool) {p q : Rule A} → Gives n P p → Gives n P q
    → Gives n P (if test p q)
tests {A} {n} {P} test {p} {q} x y = record { run = λ l ts h. go (test ts) l ts h }
  where
    go : (b : Bool) (l : Notes) (ts : List Token) → State n l ts → OutGives n P (cond b p q l ts)
    go true l ts h = x.run l ts h
    go false l ts h = y.run l ts h

in_group : {A : Type 0} {n : ℕ} (P : A → Type 0) {p : Rule A} (b : ℕ) → Gives n P p → Gives n P (inside_byte b p)
in_group P {p} b x =
    then {f = λ u. p >>= λ a. leave (closer b) >>= λ v. give a} (anything (the-mark b))
    (λ u t. then {f = λ a. leave (closer b) >>= λ v. give a} x
    (λ a h. then {f = λ v. give a} (anything (leaves (closer b))) (λ v t. giving P a h)))

-- ---- an item lies in the text

abbrev pub ItemWithin : ℕ → Item → Type 0
ItemWithin n x = (x.start ≤ suc n) × (x.end ≤ n)

module _ (n : ℕ) where
  here_gives : Gives n (λ q. q ≤ n) here
  here_gives = record { run = λ l ts h. (place-near n ts h.near, h) }

  body_gives : Gives n (λ b. b.1 ≤ n) body
  body_gives =
      then (anything (input_stays n)) (λ ns t. then here_gives (λ end h. giving (λ b. b.1 ≤ n) (ns, end) h))

  item_gives : Gives n (ItemWithin n) item
  unfolding item
  item_gives =
      then (anything a_word_lem)
      (λ w t. then (anything (the-mark 61))
      (λ u t. then here_gives
      (λ brace h. then (in_group (λ b. b.1 ≤ n) 123 body_gives)
      (λ b e. giving (ItemWithin n) (record { name = w.1; start = suc brace; end = b.1; nodes = b.0 }) (omega arith, e)))))

  all_more : (xs : List Item) (x : Item) → All (ItemWithin n) xs → ItemWithin n x → All (ItemWithin n) (xs ++ (x ∷ []))
  all_more [] x h g = (g, tt)
  all_more (y ∷ xs) x h g = (h.0, all_more xs x h.1 g)

  abbrev NextWithin : Next (List Item) → Type 0
  NextWithin (more xs) = All (ItemWithin n) xs
  NextWithin (done xs) = All (ItemWithin n) xs

  step_gives : (xs : List Item) → All (ItemWithin n) xs → Gives n NextWithin (items_step xs)
  unfolding items_step
  step_gives xs h =
      tests ends (giving NextWithin (done xs) h)
      (then item_gives (λ x g. giving NextWithin (more (xs ++ (x ∷ []))) (all_more xs x h g)))

  steps_give : (k : ℕ) (xs : List Item) → All (ItemWithin n) xs → Gives n (All (ItemWithin n)) (iterate items_step k xs)
  unfolding iterate
  steps_give zero xs h = record { run = λ l ts g. (h, g) }
  steps_give (suc k) xs h = on (λ ys g. steps_give k ys g)
    where
      on : ((ys : List Item) → All (ItemWithin n) ys → Gives n (All (ItemWithin n)) (iterate items_step k ys))
          → Gives n (All (ItemWithin n)) (items_step xs >>= following (λ ys. iterate items_step k ys))
      on again = then (step_gives xs h) by
        where
          by : (x : Next (List Item)) → NextWithin x → Gives n (All (ItemWithin n)) (following (λ ys. iterate items_step k ys) x)
          by (more ys) g = again ys g
          by (done ys) g = giving (All (ItemWithin n)) ys g

  -- ---- a book

  abbrev BookNear : Book → Type 0
  BookNear (held xs) = All (ItemWithin n) xs
  BookNear (wrong r p) = p ≤ n

  left_near : (xs : List Item) (o : Option ℕ) → All (ItemWithin n) xs → LeftNear n o → BookNear (unless_left xs o)
  left_near xs none h g = h
  left_near xs (some p) h g = g

  finished-near : (o : Out (List Item)) → OutGives n (All (ItemWithin n)) o → BookNear (finished o)
  finished-near (got xs l ts) h = left_near xs l.leftover h.0 h.1.left
  finished-near (refused r p) h = h

  parsed-near : (m : ℕ) (x : Split) → SplitNear n x → SplitFew (suc n) x → BookNear (parsed m x)
  unfolding items
  parsed-near m (unlexed r p) h g = h
  parsed-near m (tokens ts) h g =
      finished-near (iterate items_step (suc m) [] (fresh m) ts)
      ((steps_give (suc m) [] tt).run (fresh m) ts (record { left = tt; near = h; few = omega arith }))

split_fewer : (n m : ℕ) (x : Split) → m ≤ n → SplitFew m x → SplitFew n x
split_fewer n m (unlexed r p) h g = tt
split_fewer n m (tokens ts) h g = omega arith

written-near : (t : List ℕ) → BookNear text_limit (written t)
unfolding split
written-near t = go (ltb text_limit (length t)) refl
  where
    go : (b : Bool) → ltb text_limit (length t) ≡ b
        → BookNear text_limit (cond b (wrong TextTooLong 0) (parsed (length t) (split t)))
    go true e = omega arith
    go false e =
        let h = ltb-false text_limit (length t) e in
        parsed-near text_limit (length t) (split t) (split-near text_limit 0 0 [] t (omega arith))
        (split_fewer (suc text_limit) (suc (length t)) (split t) (omega arith) (split_few 0 0 [] t))

abbrev pub BookWithin : Book → Type 0
BookWithin (held xs) = All (ItemWithin text_limit) xs × (length xs ≤ item_limit)
BookWithin (wrong r p) = p ≤ text_limit

settled-within : (x : Book) → BookNear text_limit x → BookWithin (settled x)
settled-within (wrong r p) h = h
settled-within (held xs) h = go (repeated (names xs)) (ltb item_limit (length xs)) refl
  where
    go : (a b : Bool) → ltb item_limit (length xs) ≡ b
        → BookWithin (cond a (wrong NameTwice 0) (cond b (wrong TooManyItems 0) (held xs)))
    go true b e = omega arith
    go false true e = omega arith
    go false false e = (h, omega (arith, ltb-false item_limit (length xs) e))

pub book-within : (t : List ℕ) → BookWithin (book t)
unfolding book
book-within t = settled-within (written t) (written-near t)

-- ---- lookups

abbrev pub LookupWithin : LookupAnswer → Type 0
LookupWithin (lookup.InStore start size) = (start ≤ suc text_limit) × (size ≤ text_limit)
LookupWithin (lookup.InChain start size) = (start ≤ suc text_limit) × (size ≤ text_limit)
LookupWithin (lookup.Refused r p) = p ≤ text_limit

abbrev FoundWithin : Option Item → Type 0
FoundWithin none = Unit {0}
FoundWithin (some x) = ItemWithin text_limit x

at-within : (xs : List Item) (k : ℕ) → All (ItemWithin text_limit) xs → FoundWithin (get_elem? xs k)
at-within [] k h = tt
at-within (x ∷ xs) zero h = h.0
at-within (x ∷ xs) (suc k) h = at-within xs k h.1

named-within : (xs : List Item) (w : List ℕ) → All (ItemWithin text_limit) xs → FoundWithin (named xs w)
named-within xs w h = go (find (names xs) 0 w)
  where
    go : (o : Option ℕ) → FoundWithin (item_at xs o)
    go none = tt
    go (some k) = at-within xs k h

found_within : (x y : Option Item) → FoundWithin x → FoundWithin y → LookupWithin (found x y)
found_within (some x) y h g = (h.0, omega (arith, h.1))
found_within none (some y) h g = (g.0, omega (arith, g.1))
found_within none none h g = omega arith

pub lookup_within : (store chain w : List ℕ) → LookupWithin (looking_up store chain w)
unfolding looking_up
lookup_within store chain w = go (book store) (book chain) (book-within store) (book-within chain)
  where
    go : (x y : Book) → BookWithin x → BookWithin y → LookupWithin (in_books w x y)
    go (wrong r p) y h g = h
    go (held xs) (wrong r p) h g = g
    go (held xs) (held ys) h g = found_within (named xs w) (named ys w) (named-within xs w h.0) (named-within ys w g.0)

-- ---- listings

abbrev pub OrderWithin : OrderAnswer → Type 0
OrderWithin (order.Listed items) = items ≤ item_limit
OrderWithin (order.Refused r p) = p ≤ text_limit

put-within : (out l : List ℕ) → length l ≤ item_limit → OrderWithin (put out l).0
put-within out l h = go (ltb (length out) (length l)) (l ++ drop (length l) out)
  where
    go : (b : Bool) (a : List ℕ)
        → OrderWithin (cond {A = OrderAnswer × List ℕ} b (order.Refused OutputTooShort 0, out) (order.Listed (length l), a)).0
    go true a = omega arith
    go false a = h

pub order-within : (t out : List ℕ) → OrderWithin (listing t out).0
unfolding listing
order-within t out = go (book t) (book-within t)
  where
    go : (x : Book) → BookWithin x → OrderWithin (listing_of t out x).0
    go (wrong r p) h = h
    go (held xs) h = by (listed.order (calls t xs) (length xs)) refl
      where
        by : (o : Option (List ℕ)) → listed.order (calls t xs) (length xs) ≡ o → OrderWithin (ordered out o).0
        by none e = omega arith
        by (some l) e = put-within out l (omega (arith, (is-listing (calls t xs) (length xs) l e).long, h.1))
