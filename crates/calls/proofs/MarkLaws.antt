-- Calls as bytes: what marks do to them.
use Prim.Native.Nat.{ℕ, ◌+◌, ◌*◌, ◌≤◌, ◌<◌}
use mathlib.Core.Bool.{Bool, true, false, ◌&&◌, ◌||◌, not}
use mathlib.Core.List.{List, [], ◌∷◌, ◌++◌}
use mathlib.Core.Option.{Option, none, some}
use mathlib.Core.Path.{◌≡◌, refl, sym, ap, ◌∙◌}
use native.Mathlib.Omega.{arith}
use borrow.Author.Tests.{eqb-true, eqb-false, ne_eqb}
use lib.Dec.{eqb}
use lib.ListN.{length, get_or, set, replicate, length-set, length-replicate, get_or-replicate}
use lib.Seq.{get_or-set_same, get_or-set_other}
use Rattle.text.specs.Bytes.{one_of}
use Rattle.text.specs.Words.{find}
use Rattle.text.proofs.CaseLaws.{Case, yes!, no!, case}
use Rattle.books.specs.Book.{Item}
use Rattle.book.proofs.HeldLaws.{find_low}
use Rattle.order.specs.Means.{calls_in}
use Rattle.books.specs.Calls.{with, ordinals, calls}
use Rattle.calls.specs.Means.{mark, marks, Filled}

-- ---- one mark

pub set_call : (m : List ℕ) (i j a b : ℕ) → length m ≡ 16384 → i < 128 → j < 128 → b < 128
    → calls_in (set m (i * 128 + j) 1) a b ≡ ((eqb a i && eqb b j) || calls_in m a b)
unfolding calls_in
set_call m i j a b h p q r = go (case (eqb a i)) (case (eqb b j))
  where
    other : (a * 128 + b ≡ i * 128 + j → ⊥)
        → not (eqb (get_or (set m (i * 128 + j) 1) (a * 128 + b) 0) 0) ≡ not (eqb (get_or m (a * 128 + b) 0) 0)
    other f = rw (get_or-set_other m (i * 128 + j) (a * 128 + b) 1 0 f)

    go : Case (eqb a i) → Case (eqb b j)
        → not (eqb (get_or (set m (i * 128 + j) 1) (a * 128 + b) 0) 0) ≡ ((eqb a i && eqb b j) || not (eqb (get_or m (a * 128 + b) 0) 0))
    go (yes! t) (yes! u) =
        let e : a ≡ i = eqb-true a i t in
        let f : b ≡ j = eqb-true b j u in
        rw (t, u, e, f, get_or-set_same m (i * 128 + j) 1 0 (omega arith))
    go (yes! t) (no! u) =
        let e : a ≡ i = eqb-true a i t in
        rw (t, u) (other (λ w. eqb-false b j u (omega arith)))
    go (no! t) u = rw t (other (λ w. eqb-false a i t (omega arith)))

-- ---- all of an item

-- each is the ordinal of one of 128 items
abbrev pub Ordinals : List ℕ → Type 0
Ordinals [] = Unit {0}
Ordinals (j ∷ js) = (j < 128) × Ordinals js

pub marks-length : (m : List ℕ) (i : ℕ) (js : List ℕ) → length (marks m i js) ≡ length m
marks-length m i [] = refl
marks-length m i (j ∷ js) = marks-length (set m (i * 128 + j) 1) i js ∙ length-set m (i * 128 + j) 1

pub marks_call : (js m : List ℕ) (i a b : ℕ) → length m ≡ 16384 → i < 128 → Ordinals js → b < 128
    → calls_in (marks m i js) a b ≡ ((eqb a i && one_of js b) || calls_in m a b)
unfolding one_of
marks_call [] m i a b h p o r = rw (never (eqb a i))
  where
    never : (x : Bool) → (x && false) ≡ false
    never true = refl
    never false = refl
marks_call (j ∷ js) m i a b h p o r =
    marks_call js (set m (i * 128 + j) 1) i a b (length-set m (i * 128 + j) 1 ∙ h) p o.1 r
    ∙ rw (set_call m i j a b h p o.0 r) (go (eqb a i) (eqb b j) (one_of js b) (calls_in m a b))
  where
    go : (x y z c : Bool) → ((x && z) || ((x && y) || c)) ≡ ((x && (y || z)) || c)
    go false y z c = refl
    go true true true c = refl
    go true true false c = refl
    go true false true c = refl
    go true false false c = refl

pub marks-append : (m : List ℕ) (i : ℕ) (js ks : List ℕ) → marks m i (js ++ ks) ≡ marks (marks m i js) i ks
marks-append m i [] ks = refl
marks-append m i (j ∷ js) ks = marks-append (set m (i * 128 + j) 1) i js ks

pub mark_is : (m : List ℕ) (i : ℕ) (o : Option ℕ) → mark m i o ≡ marks m i (with o [])
mark_is m i none = refl
mark_is m i (some j) = refl

pub ordinals-append : (ns ws vs : List (List ℕ)) → ordinals ns (ws ++ vs) ≡ ordinals ns ws ++ ordinals ns vs
ordinals-append ns [] vs = refl
ordinals-append ns (w ∷ ws) vs = go (ordinals-append ns ws vs) (find ns 0 w)
  where
    go : ordinals ns (ws ++ vs) ≡ ordinals ns ws ++ ordinals ns vs → (o : Option ℕ)
        → with o (ordinals ns (ws ++ vs)) ≡ with o (ordinals ns ws) ++ ordinals ns vs
    go ih none = ih
    go ih (some j) = ap (λ (l : List ℕ). j ∷ l) ih

-- ---- what is found is an ordinal

pub ordinals_low : (ns ws : List (List ℕ)) → length ns ≤ 128 → Ordinals (ordinals ns ws)
ordinals_low ns [] h = tt
ordinals_low ns (w ∷ ws) h = go (find ns 0 w) refl (ordinals_low ns ws h)
  where
    go : (o : Option ℕ) → find ns 0 w ≡ o → Ordinals (ordinals ns ws) → Ordinals (with o (ordinals ns ws))
    go none e r = r
    go (some j) e r = (omega (arith, find_low ns 0 j w e), r)

-- ---- items one after the other

pub filled_none : (t : List ℕ) (xs : List Item) (m : List ℕ) → m ≡ replicate 16384 0 → Filled t xs m 0
unfolding calls_in
filled_none t xs m e = record {
  size = ap length e ∙ length-replicate {A = ℕ} 16384 0;
  is = λ i j h l. absurd (omega arith);
  rest = λ i j h l r. rw (e, get_or-replicate {A = ℕ} 16384 (i * 128 + j) 0 0 (omega arith));
}

pub filled_more : {t : List ℕ} {xs : List Item} {m : List ℕ} {n : ℕ} (js : List ℕ) → Filled t xs m n → n < 128 → Ordinals js
    → ((j : ℕ) → calls t xs n j ≡ one_of js j) → Filled t xs (marks m n js) (n + 1)
filled_more {t} {xs} {m} {n} js f h o e = record {
  size = marks-length m n js ∙ f.size;
  is = λ i j l r. rw (marks_call js m n i j f.size h o r) (by i j l r (case (eqb i n)));
  rest = λ i j l p r. rw (marks_call js m n i j f.size h o r, ne_eqb i n (λ q. omega arith)) (f.rest i j (omega arith) p r);
}
  where
    or_false : (a : Bool) → (a || false) ≡ a
    or_false true = refl
    or_false false = refl

    by : (i j : ℕ) → i < n + 1 → j < 128 → Case (eqb i n) → ((eqb i n && one_of js j) || calls_in m i j) ≡ calls t xs i j
    by i j l r (yes! t') =
        let q : i ≡ n = eqb-true i n t' in
        rw (t', q, f.rest n j (omega arith) h r, or_false (one_of js j)) (sym (e j))
    by i j l r (no! g) = rw g (f.is i j (let q = eqb-false i n g in below q) r)
      where
        below : (i ≡ n → ⊥) → i < n
        below q = omega arith
