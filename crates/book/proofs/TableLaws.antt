-- The table of items, and names in it.
use Prim.Native.Nat.{ℕ, zero, suc, ◌+◌, ◌-◌, ◌≤◌, ◌<◌}
use mathlib.Core.Bool.{Bool, true, false, ◌||◌}
use mathlib.Core.List.{List, [], ◌∷◌, ◌++◌}
use mathlib.Core.Logic.{◌⊎◌, inl, inr, ⊎_elim}
use mathlib.Core.Option.{none, some}
use mathlib.Core.Path.{◌≡◌, refl, sym, ap, ◌∙◌, subst, subst⁻¹}
use native.Mathlib.Numerals.{add-one}
use native.Mathlib.Omega.{arith}
use lib.ListN.{length, get_or, take, drop, set, get_elem?, length-set, length-append, take-append-drop, drop_of_length-le}
use lib.Seq.{get_or-set_same, get_or-set_other, drop-cons, get_or-take, length-take-le, take-suc, take_all}
use Rattle.text.specs.Bytes.{same, part}
use Rattle.text.specs.Words.{is_some, find}
use Rattle.text.proofs.WordLaws.{same_eq, same_refl, find-here, find_past}
use Rattle.text.proofs.CaseLaws.{Case, yes!, no!, case}
use Rattle.books.specs.Book.{Item, names, repeated}
use Rattle.book.specs.Means.{Same, row_of, row_at, Row, Rows}
use Rattle.book.specs.declared.Item as item
use Rattle.book.specs.declared.Row as code

-- ---- truth values

pub clash {ℓ} : {A : Type ℓ} {b : Bool} → b ≡ true → b ≡ false → A
clash t f = absurd (let z : ◌≡◌ {A = ℕ} 0 1 = cc in omega arith)

-- ---- rows

-- the element at a place of a list with one more
at_more : {A : Type 0} (xs : List A) (y z : A) (j : ℕ) → get_elem? (xs ++ (y ∷ [])) j ≡ some z
    → ((j < length xs) × (get_elem? xs j ≡ some z)) ⊎ ((j ≡ length xs) × (y ≡ z))
at_more [] y z zero e = inr (refl, cc)
at_more [] y z (suc j) e = absurd (let q : ◌≡◌ {A = ℕ} 0 1 = cc in omega arith)
at_more (x ∷ xs) y z zero e = inl (omega arith, e)
at_more (x ∷ xs) y z (suc j) e =
    ⊎_elim (λ p. inl (omega (arith, p.0), p.1)) (λ p. inr (ap suc p.0, p.1)) (at_more xs y z j e)

pub rows_none : {s : List ℕ} {t : List code.Row} → length t ≡ 5461 → Rows s t []
rows_none h = record { long = h; few = omega arith; row = λ k y e. absurd (let q : ◌≡◌ {A = ℕ} 0 1 = cc in omega arith) }

pub rows_more : {s : List ℕ} {t : List code.Row} {xs : List Item} {x : item.Item} {y : Item} {k : ℕ}
    → Rows s t xs → Same s x y → k ≡ length xs → k < 5461 → Rows s (set t k (row_of x)) (xs ++ (y ∷ []))
rows_more {s} {t} {xs} {x} {y} {k} r m e h = record {
  long = length-set t k (row_of x) ∙ r.long;
  few = omega (arith, length-append xs (y ∷ []));
  row = λ j z g. ⊎_elim (λ p. old j z p.0 (r.row j z p.1)) (λ p. new j z p.0 p.1) (at_more xs y z j g);
}
  where
    IsRow : code.Row → Item → Type 0
    IsRow u z = (part s u.name_start u.name_size ≡ z.name) × (u.start ≡ z.start) × (u.size ≡ z.end - z.start)

    is_row : (u : code.Row) (j : ℕ) (z : Item) → row_at (set t k (row_of x)) j ≡ u → IsRow u z → Row s (set t k (row_of x)) j z
    is_row u j z q i =
        let v = subst⁻¹ (λ (u : code.Row). IsRow u z) q i in record { name = v.0; start = v.1; size = v.2 }

    old : (j : ℕ) (z : Item) → j < length xs → Row s t j z → Row s (set t k (row_of x)) j z
    old j z l q = is_row (row_at t j) j z (get_or-set_other t k j (row_of x) _ (λ q. omega arith)) (q.name, q.start, q.size)

    new : (j : ℕ) (z : Item) → j ≡ length xs → y ≡ z → Row s (set t k (row_of x)) j z
    new j z l q =
        let same_k : k ≡ j = e ∙ sym l in
        subst (λ (z : Item). Row s (set t k (row_of x)) j z) q
        (subst (λ (j : ℕ). Row s (set t k (row_of x)) j y) same_k
        (is_row (row_of x) k y (get_or-set_same t k (row_of x) _ (omega (arith, r.long)))
        (m.name, m.start, (let p = m.start in let q = m.end in rw (p, q) refl))))

-- ---- names

item-at : (xs : List Item) (k : ℕ) → k < length xs → (y : Item) × (get_elem? xs k ≡ some y) × (get_or (names xs) k [] ≡ y.name)
item-at [] k h = absurd (omega arith)
item-at (x ∷ xs) zero h = (x, refl, refl)
item-at (x ∷ xs) (suc k) h = item-at xs k (omega arith)

pub name_of : (xs : List Item) (k : ℕ) (y : Item) → get_elem? xs k ≡ some y → (k < length xs) × (get_or (names xs) k [] ≡ y.name)
name_of [] k y e = absurd (let q : ◌≡◌ {A = ℕ} 0 1 = cc in omega arith)
name_of (x ∷ xs) zero y e = (omega arith, cc)
name_of (x ∷ xs) (suc k) y e = let r = name_of xs k y e in (omega (arith, r.0), r.1)

pub row_name : {s : List ℕ} {t : List code.Row} {xs : List Item} → Rows s t xs → (k : ℕ) → k < length xs
    → part s (row_at t k).name_start (row_at t k).name_size ≡ get_or (names xs) k []
row_name {xs = xs} r k h = let y = item-at xs k h in (r.row k y.0 y.1).name ∙ sym y.2

pub names-long : (xs : List Item) → length (names xs) ≡ length xs
names-long [] = refl
names-long (x ∷ xs) = ap suc (names-long xs)

-- the search at place k, of n
module _ (l : List (List ℕ)) (w : List ℕ) (n k : ℕ) (g : n ≤ length l) where
  cut : k < n → drop k (take n l) ≡ get_or l k [] ∷ drop (suc k) (take n l)
  cut h = rw (drop-cons (take n l) k [] (let e = length-take-le n l g in omega arith), get_or-take n l k [] h)

  pub search_here : k < n → same w (get_or l k []) ≡ true → find (drop k (take n l)) k w ≡ some k
  search_here h e = rw (cut h) (find-here w (get_or l k []) (drop (suc k) (take n l)) k e)

  pub search_past : k < n → same w (get_or l k []) ≡ false → find (drop k (take n l)) k w ≡ find (drop (k + 1) (take n l)) (k + 1) w
  search_past h e = rw (cut h, add-one k) (find_past w (get_or l k []) (drop (suc k) (take n l)) k e)

  pub search_end : n ≤ k → find (drop k (take n l)) k w ≡ none
  unfolding find
  search_end h = rw (drop_of_length-le (take n l) {i = k} (let e = length-take-le n l g in omega arith))

-- ---- the same name twice

same_sym : (a b : List ℕ) → same a b ≡ same b a
same_sym a b = go (case (same a b)) (case (same b a))
  where
    go : Case (same a b) → Case (same b a) → same a b ≡ same b a
    go (yes! t) (yes! u) = t ∙ sym u
    go (no! t) (no! u) = t ∙ sym u
    go (yes! t) (no! u) = clash (same_refl b) (subst (λ (x : List ℕ). same b x ≡ false) (same_eq a b t) u)
    go (no! t) (yes! u) = clash (same_refl a) (subst (λ (x : List ℕ). same a x ≡ false) (same_eq b a u) t)

has : List (List ℕ) → List ℕ → Bool
has [] w = false
has (x ∷ l) w = same w x || has l w

found_has : (l : List (List ℕ)) (i : ℕ) (w : List ℕ) → is_some (find l i w) ≡ has l w
unfolding find has
found_has [] i w = refl
found_has (x ∷ l) i w = go (found_has l (suc i) w) (case (same w x))
  where
    go : is_some (find l (suc i) w) ≡ has l w → Case (same w x) → is_some (find (x ∷ l) i w) ≡ (same w x || has l w)
    go ih (yes! t) = rw (find-here w x l i t, t)
    go ih (no! f) = rw (find_past w x l i f, f) ih

has_more : (l : List (List ℕ)) (w x : List ℕ) → has (l ++ (w ∷ [])) x ≡ (has l x || same x w)
unfolding has
has_more [] w x = go (same x w)
  where
    go : (b : Bool) → (b || false) ≡ b
    go true = refl
    go false = refl
has_more (y ∷ l) w x = rw (has_more l w x) (go (same x y) (has l x) (same x w))
  where
    go : (a b c : Bool) → (a || (b || c)) ≡ ((a || b) || c)
    go true b c = refl
    go false b c = refl

repeated-more : (l : List (List ℕ)) (w : List ℕ) → repeated (l ++ (w ∷ [])) ≡ (repeated l || has l w)
unfolding repeated has find
repeated-more [] w = refl
repeated-more (x ∷ l) w =
    rw (found_has (l ++ (w ∷ [])) 0 x, found_has l 0 x, repeated-more l w, has_more l w x, same_sym x w)
    (go (has l x) (same w x) (repeated l) (has l w))
  where
    go : (a s r b : Bool) → ((a || s) || (r || b)) ≡ ((a || r) || (s || b))
    go true s r b = refl
    go false true true b = refl
    go false true false b = refl
    go false false r b = refl

-- at place k of a list whose first k words differ
module _ (l : List (List ℕ)) (k : ℕ) (h : k < length l) where
  pub twice_not : repeated (take k l) ≡ false → is_some (find (take k l) 0 (get_or l k [])) ≡ false → repeated (take (k + 1) l) ≡ false
  twice_not f g =
      rw (add-one k, take-suc l k [] h, repeated-more (take k l) (get_or l k []), f) (sym (found_has (take k l) 0 (get_or l k [])) ∙ g)

  pub twice_here : is_some (find (take k l) 0 (get_or l k [])) ≡ true → repeated (take (suc k) l) ≡ true
  twice_here g =
      rw (take-suc l k [] h, repeated-more (take k l) (get_or l k []), sym (found_has (take k l) 0 (get_or l k [])) ∙ g)
      (go (repeated (take k l)))
    where
      go : (b : Bool) → (b || true) ≡ true
      go true = refl
      go false = refl

has_append : (l m : List (List ℕ)) (w : List ℕ) → has l w ≡ true → has (l ++ m) w ≡ true
unfolding has
has_append [] m w e = clash e refl
has_append (x ∷ l) m w e = go (λ f. has_append l m w f) (case (same w x))
  where
    go : (has l w ≡ true → has (l ++ m) w ≡ true) → Case (same w x) → (same w x || has (l ++ m) w) ≡ true
    go ih (yes! t) = rw t
    go ih (no! f) = rw f (ih (subst (λ (b : Bool). (b || has l w) ≡ true) f e))

pub twice_later : (l m : List (List ℕ)) → repeated l ≡ true → repeated (l ++ m) ≡ true
unfolding repeated
twice_later [] m e = clash e refl
twice_later (x ∷ l) m e = go (λ f. twice_later l m f) (case (has l x))
  where
    go : (repeated l ≡ true → repeated (l ++ m) ≡ true) → Case (has l x) → (is_some (find (l ++ m) 0 x) || repeated (l ++ m)) ≡ true
    go ih (yes! t) = rw (found_has (l ++ m) 0 x, has_append l m x t)
    go ih (no! f) =
        rw (ih (subst (λ (b : Bool). (b || repeated l) ≡ true) (found_has l 0 x ∙ f) e)) (or (is_some (find (l ++ m) 0 x)))
      where
        or : (b : Bool) → (b || true) ≡ true
        or true = refl
        or false = refl

module _ (xs : List Item) (k : ℕ) (h : k < length xs) where
  pub twice_at : ((y : Item) → get_elem? xs k ≡ some y → true ≡ is_some (find (take k (names xs)) 0 y.name)) → true ≡ repeated (names xs)
  twice_at f =
      let y = item-at xs k h in
      let e : is_some (find (take k (names xs)) 0 (get_or (names xs) k [])) ≡ true = rw y.2 (sym (f y.0 y.1)) in
      sym
      (subst (λ (l : List (List ℕ)). repeated l ≡ true) (take-append-drop (suc k) (names xs))
      (twice_later (take (suc k) (names xs)) (drop (suc k) (names xs)) (twice_here (names xs) k (rw (names-long xs) h) e)))

  pub not_twice_at : ((y : Item) → get_elem? xs k ≡ some y → false ≡ is_some (find (take k (names xs)) 0 y.name))
      → repeated (take k (names xs)) ≡ false → repeated (take (k + 1) (names xs)) ≡ false
  not_twice_at f g =
      let y = item-at xs k h in
      twice_not (names xs) k (rw (names-long xs) h) g (rw y.2 (sym (f y.0 y.1)))

pub never_twice : (xs : List Item) (k : ℕ) → length xs ≤ k → repeated (take k (names xs)) ≡ false → false ≡ repeated (names xs)
never_twice xs k h e = sym (rw (take_all k (names xs) (rw (names-long xs) h)) at e)
