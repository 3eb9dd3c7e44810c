-- Laws of a word that is looked up: its place in a list of names, and what a list has under it.
use Prim.Native.Nat.{ℕ, suc, ◌+◌, ◌<◌}
use Prim.Native.String.{String}
use mathlib.Core.Bool.{Bool, true, false}
use mathlib.Core.List.{List, [], ◌∷◌}
use mathlib.Core.Option.{Option, none, some, some-injective}
use mathlib.Core.Path.{◌≡◌, refl, sym, ◌∙◌, subst}
use native.Mathlib.Omega.{arith}
use lib.ListN.{length, get_elem?}
use Rattle.text.specs.Bytes.{bytes, same}
use Rattle.text.specs.Words.{find, under}
use Rattle.text.proofs.WordLaws.{find-here, find_past}
use Rattle.token.specs.Token.{Token}
use Rattle.error.specs.declared.Refusal.{Refusal}
use Rattle.grammar.specs.Rule.{Notes, Out, got, refused, after, Rule, need, word, choice_in}
use Rattle.read_cursor.specs.Means.{notes, tokens, run, Took}
use Rattle.read_cursor.specs.declared.Cursor.{Cursor}
use Rattle.read_values.specs.Means.{names_of, by_name}

pub none≢some : {A B : Type 0} {a : A} → Prim.Path (Option A) none (some a) → B
none≢some e = absurd (let z : ◌≡◌ {A = ℕ} 0 1 = cc in omega arith)

pub refused≢got : {A B : Type 0} {r : Refusal} {q : ℕ} {a : A} {l : Notes} {ts : List Token}
    → Prim.Path (Out A) (refused r q) (got a l ts) → B
refused≢got e = absurd (let z : ◌≡◌ {A = ℕ} 0 1 = cc in omega arith)

-- ---- lookups

below_by : (n : List ℕ) (ns : List (List ℕ)) (k i : ℕ) (w : List ℕ)
    → find (n ∷ ns) k w ≡ some i
    → (find ns (suc k) w ≡ some i → i < suc k + length ns)
    → (b : Bool) → same w n ≡ b → i < k + length (n ∷ ns)
below_by n ns k i w e ih true q = let z = some-injective k i (sym (find-here w n ns k q) ∙ e) in omega arith
below_by n ns k i w e ih false q = let z = ih (sym (find_past w n ns k q) ∙ e) in omega arith

-- a place that a lookup gives lies in the list
find-below : (ns : List (List ℕ)) (k i : ℕ) (w : List ℕ) → find ns k w ≡ some i → i < k + length ns
unfolding find
find-below [] k i w e = none≢some e
find-below (n ∷ ns) k i w e = below_by n ns k i w e (λ q. find-below ns (suc k) i w q) (same w n) refl

-- a row that a lookup of its name finds at d
pub record RowUnder {A : Type 0} (t : List (String × A)) (w : List ℕ) (d : ℕ) : Type 0 where
  pub row : String × A
  pub is : get_elem? t d ≡ some row
  pub under : under t w ≡ some row.1

under_by : {A : Type 0} (f : String × A) (fs : List (String × A)) (i m : ℕ) (w : List ℕ) → find (names_of (f ∷ fs)) i w ≡ some m
    → (find (names_of fs) (suc i) w ≡ some m → (d : ℕ) × (m ≡ suc i + d) × RowUnder fs w d)
    → (b : Bool) → same w (bytes f.0) ≡ b → (d : ℕ) × (m ≡ i + d) × RowUnder (f ∷ fs) w d
unfolding under
under_by f fs i m w e ih true q = (
  0,
  let z = some-injective i m (sym (find-here w (bytes f.0) (names_of fs) i q) ∙ e) in omega arith,
  record { row = f; is = refl; under = rw (q, under) },
)
under_by f fs i m w e ih false q =
    let (d, p, r) = ih (sym (find_past w (bytes f.0) (names_of fs) i q) ∙ e) in
    (suc d, omega arith, record { row = r.row; is = r.is; under = rw (q, under) r.under })

under_from : {A : Type 0} (t : List (String × A)) (i m : ℕ) (w : List ℕ)
    → find (names_of t) i w ≡ some m → (d : ℕ) × (m ≡ i + d) × RowUnder t w d
unfolding find
under_from [] i m w e = none≢some e
under_from (f ∷ fs) i m w e = under_by f fs i m w e (λ q. under_from fs (suc i) m w q) (same w (bytes f.0)) refl

pub under_row : {A : Type 0} (t : List (String × A)) (m : ℕ) (w : List ℕ) → find (names_of t) 0 w ≡ some m → RowUnder t w m
under_row t m w e = let (d, p, r) = under_from t 0 m w e in let q : m ≡ d = omega arith in subst (RowUnder t w) (sym q) r

none_by : {A : Type 0} (f : String × A) (fs : List (String × A)) (i : ℕ) (w : List ℕ) → find (names_of (f ∷ fs)) i w ≡ none
    → (find (names_of fs) (suc i) w ≡ none → under fs w ≡ none) → (b : Bool) → same w (bytes f.0) ≡ b → under (f ∷ fs) w ≡ none
unfolding under
none_by f fs i w e ih true q = none≢some (sym e ∙ find-here w (bytes f.0) (names_of fs) i q)
none_by f fs i w e ih false q = rw (q, under) (ih (sym (find_past w (bytes f.0) (names_of fs) i q) ∙ e))

pub under_none : {A : Type 0} (t : List (String × A)) (i : ℕ) (w : List ℕ) → find (names_of t) i w ≡ none → under t w ≡ none
unfolding under
under_none [] i w e = refl
under_none (f ∷ fs) i w e = none_by f fs i w e (λ q. under_none fs (suc i) w q) (same w (bytes f.0)) refl

-- ---- the word at a cursor

-- the word between c and m is the one at i of a list
record Chosen (s : List ℕ) (c m : Cursor) (ns : List (List ℕ)) (i : ℕ) : Type 0 where
  name : ℕ × List ℕ
  is : run s c word ≡ got name (notes s m) (tokens s m)
  found : find ns 0 name.1 ≡ some i

module _ (s : List ℕ) (c m : Cursor) (r : Refusal) (ns : List (List ℕ)) (i : ℕ) where
  chosen_find : (w : ℕ × List ℕ) (l : Notes) (ts : List Token) → run s c word ≡ got w l ts
      → (x : Option ℕ) → find ns 0 w.1 ≡ x → need r x l ts ≡ got i (notes s m) (tokens s m) → Chosen s c m ns i
  chosen_find w l ts e none f q = refused≢got q
  chosen_find w l ts e (some j) f q = let h : j ≡ i = cc in record { name = w; is = cc; found = cc }

  chosen_word : (o : Out (ℕ × List ℕ)) → run s c word ≡ o
      → after o (λ w. need r (find ns 0 w.1)) ≡ got i (notes s m) (tokens s m)
      → Chosen s c m ns i
  chosen_word (got w l ts) e q = chosen_find w l ts e (find ns 0 w.1) refl q
  chosen_word (refused a p) e q = refused≢got q

  chosen : Took 1 s c m (choice_in r ns) i → Chosen s c m ns i
  chosen t = chosen_word (run s c word) refl t.is

  pub choice-below : Took 1 s c m (choice_in r ns) i → i < length ns
  choice-below t = let h = chosen t in let z = find-below ns 0 i h.name.1 h.found in omega arith

-- ---- the rule that a word names

-- the word at c names the rule of the row i, which goes on at m
record Named {A : Type 0} (s : List ℕ) (c m : Cursor) (r : Refusal) (t : List (String × Rule A)) (i : ℕ) : Type 0 where
  row : String × Rule A
  at : get_elem? t i ≡ some row
  is : run s c (by_name r t) ≡ run s m row.1

-- the same refusal of another rule
refused_too : {A B : Type 0} (r a : Refusal) (p q : ℕ) → Prim.Path (Out A) (refused r p) (refused a q)
    → Prim.Path (Out B) (refused r p) (refused a q)
refused_too r a p q h = let x : r ≡ a = cc in let y : p ≡ q = cc in rw (x, y)

module _ {A : Type 0} (s : List ℕ) (c : Cursor) (r : Refusal) (t : List (String × Rule A)) where
  named : (m : Cursor) (i : ℕ) → Took 1 s c m (choice_in r (names_of t)) i → Named s c m r t i
  named m i k =
      let h = chosen s c m r (names_of t) i k in
      let u = under_row t i h.name.1 h.found in
      record { row = u.row; at = u.is; is = rw (h.is, u.under) }

  unnamed_find : (a : Refusal) (q : ℕ) (w : ℕ × List ℕ) (l : Notes) (ts : List Token) → run s c word ≡ got w l ts
      → (x : Option ℕ) → find (names_of t) 0 w.1 ≡ x → need r x l ts ≡ refused a q → run s c (by_name r t) ≡ refused a q
  unnamed_find a q w l ts e none f h = rw (e, under_none t 0 w.1 f) (refused_too r a _ q h)
  unnamed_find a q w l ts e (some j) f h = refused≢got (sym h)

  unnamed_word : (a : Refusal) (q : ℕ) (o : Out (ℕ × List ℕ)) → run s c word ≡ o
      → after o (λ w. need r (find (names_of t) 0 w.1)) ≡ refused a q
      → run s c (by_name r t) ≡ refused a q
  unnamed_word a q (got w l ts) e h = unnamed_find a q w l ts e (find (names_of t) 0 w.1) refl h
  unnamed_word a q (refused b p) e h = rw e (refused_too b a p q h)

  pub unnamed : (a : Refusal) (q : ℕ) → run s c (choice_in r (names_of t)) ≡ refused a q → run s c (by_name r t) ≡ refused a q
  unnamed a q h = unnamed_word a q (run s c word) refl h

  -- and what that rule says
  module _ (m : Cursor) (i : ℕ) (k : Took 1 s c m (choice_in r (names_of t)) i) where
    pub named_row : (row : String × Rule A) × (get_elem? t i ≡ some row)
    named_row = let n = named m i k in (n.row, n.at)

    pub named_took : (e : ℕ) (u : Cursor) (x : A)
        → ((row : String × Rule A) → get_elem? t i ≡ some row → Took e s m u row.1 x)
        → Took 1 s c u (by_name r t) x
    named_took e u x h =
        let n = named m i k in
        let y = h n.row n.at in
        record { is = n.is ∙ y.is; low = omega (arith, k.low, y.low); ready = y.ready }

    pub named_refused : (a : Refusal) (q : ℕ)
        → ((row : String × Rule A) → get_elem? t i ≡ some row → run s m row.1 ≡ refused a q)
        → run s c (by_name r t) ≡ refused a q
    named_refused a q h = let n = named m i k in n.is ∙ h n.row n.at
