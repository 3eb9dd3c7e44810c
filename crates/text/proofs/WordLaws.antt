-- Laws of words, of lookups in lists of them, and of tables.
use Prim.Native.Nat.{ℕ, zero, suc, ◌+◌, ◌≤◌, ◌<◌}
use mathlib.Core.List.{List, [], ◌∷◌}
use mathlib.Core.Bool.{Bool, true, false, ◌&&◌}
use mathlib.Core.Option.{none, some}
use mathlib.Core.Path.{◌≡◌, refl, sym, ap, ◌∙◌}
use native.Mathlib.Omega.{arith}
use native.Mathlib.Numerals.{add-one}
use lib.Dec.{eqb, ltb}
use lib.ListN.{length, get_or, take, drop, drop_of_length-le, length-drop}
use lib.Seq.{drop-cons, take_all, length-take-le}
use borrow.Author.Tests.{eq-eqb, ne_eqb, eqb-true, ltb-true, ltb-false}
use Rattle.std.specs.Cmp.Lexicographic.{pointwise}
use Rattle.text.specs.Bytes.{same, part}
use Rattle.text.specs.Words.{find, shorter, entries}

-- ---- equal words

-- what `==` answers on two words
pub pointwise-same : (xs ys : List ℕ) → pointwise eqb xs ys ≡ same xs ys
unfolding same
pointwise-same [] [] = refl
pointwise-same [] (y ∷ ys) = refl
pointwise-same (x ∷ xs) [] = refl
pointwise-same (x ∷ xs) (y ∷ ys) = ap (λ (t : Bool). eqb x y && t) (pointwise-same xs ys)

pub same_next : (a b : List ℕ) (i : ℕ) → i < length a → i < length b
    → get_or a i 0 ≡ get_or b i 0
    → same (drop i a) (drop i b) ≡ same (drop (i + 1) a) (drop (i + 1) b)
unfolding same
same_next a b i h g e = rw (add-one, drop-cons a i 0, drop-cons b i 0, eq-eqb _ _ e)

pub same_not : (a b : List ℕ) (i : ℕ) → i < length a → i < length b → (get_or a i 0 ≡ get_or b i 0 → ⊥) → same (drop i a) (drop i b) ≡ false
unfolding same
same_not a b i h g e = rw (drop-cons a i 0, drop-cons b i 0, ne_eqb _ _ e)

pub same_end : (a b : List ℕ) (i : ℕ) → length a ≤ i → length b ≤ i → same (drop i a) (drop i b) ≡ true
unfolding same
same_end a b i h g = rw (drop_of_length-le a h, drop_of_length-le b g)

pub same_lengths : (a b : List ℕ) → (length a ≡ length b → ⊥) → same a b ≡ false
unfolding same
same_lengths [] [] h = absurd (h refl)
same_lengths [] (y ∷ b) h = refl
same_lengths (x ∷ a) [] h = refl
same_lengths (x ∷ a) (y ∷ b) h = go (eqb x y) (same_lengths a b (λ e. h (ap suc e)))
  where
    go : (t : Bool) → same a b ≡ false → (t && same a b) ≡ false
    go true e = e
    go false e = refl

-- words that are the same are equal, and a word is the same as itself
pub same_eq : (a b : List ℕ) → same a b ≡ true → a ≡ b
unfolding same
same_eq [] [] h = refl
same_eq [] (y ∷ b) h = absurd (let z : ◌≡◌ {A = ℕ} 0 1 = cc in omega arith)
same_eq (x ∷ a) [] h = absurd (let z : ◌≡◌ {A = ℕ} 0 1 = cc in omega arith)
same_eq (x ∷ a) (y ∷ b) h = go (eqb x y) refl h (λ q. same_eq a b q)
  where
    go : (t : Bool) → eqb x y ≡ t → (t && same a b) ≡ true → (same a b ≡ true → a ≡ b) → x ∷ a ≡ y ∷ b
    go true e q ih = rw (eqb-true x y e, ih q)
    go false e q ih = absurd (let z : ◌≡◌ {A = ℕ} 0 1 = cc in omega arith)

pub same_refl : (a : List ℕ) → same a a ≡ true
unfolding same
same_refl [] = refl
same_refl (x ∷ a) = rw (eq-eqb x x refl, same_refl a)

-- ---- lookups

pub find-here : (w n : List ℕ) (ns : List (List ℕ)) (i : ℕ) → same w n ≡ true → find (n ∷ ns) i w ≡ some i
unfolding find
find-here w n ns i h = rw (h, find)

pub find_past : (w n : List ℕ) (ns : List (List ℕ)) (i : ℕ) → same w n ≡ false → find (n ∷ ns) i w ≡ find ns (suc i) w
unfolding find
find_past w n ns i h = rw (h, find)

shorter_cons : (k : ℕ) (n : List ℕ) (ns : List (List ℕ)) → shorter k (n ∷ ns) ≡ true → (length n < k) × (shorter k ns ≡ true)
unfolding shorter
shorter_cons k n ns h = go (ltb (length n) k) refl h
  where
    go : (t : Bool) → ltb (length n) k ≡ t → (t && shorter k ns) ≡ true → (length n < k) × (shorter k ns ≡ true)
    go true e q = (ltb-true (length n) k e, q)
    go false e q = absurd (let z : ◌≡◌ {A = ℕ} 0 1 = cc in omega arith)

-- a word that is longer than each of a list is not in it
pub find-long : (ns : List (List ℕ)) (i k : ℕ) (w : List ℕ) → shorter k ns ≡ true → k ≤ length w → find ns i w ≡ none
unfolding find
find-long [] i k w h g = refl
find-long (n ∷ ns) i k w h g =
    let s = shorter_cons k n ns h in
    find_past w n ns i (same_lengths w n (λ e. omega (arith, s.0))) ∙ find-long ns (suc i) k w s.1 g

-- the first k bytes of a word are enough to look it up among shorter ones
pub find_clip : (ns : List (List ℕ)) (i k : ℕ) (w : List ℕ) → shorter k ns ≡ true → find ns i (take k w) ≡ find ns i w
find_clip ns i k w h = go (ltb (length w) k) refl
  where
    go : (t : Bool) → ltb (length w) k ≡ t → find ns i (take k w) ≡ find ns i w
    go true e = rw (take_all k w (omega (arith, ltb-true (length w) k e)))
    go false e =
        let l : k ≤ length w = ltb-false (length w) k e in
        find-long ns i k (take k w) h (omega (arith, length-take-le k w l)) ∙ sym (find-long ns i k w h l)

-- ---- tables

-- the bytes of a word before are passed over
entries-skip : (k : ℕ) (t : List ℕ) → entries k t ≡ entries 0 (drop k t)
unfolding entries
entries-skip zero t = refl
entries-skip (suc k) [] = refl
entries-skip (suc k) (b ∷ t) = entries-skip k t

-- the first word of a table and those behind it, as parts of what stands behind its length
pub entries-first : (b : ℕ) (t : List ℕ) → entries 0 (b ∷ t) ≡ part t 0 b ∷ entries 0 (part t b (length t))
unfolding entries
entries-first b t =
    ap (λ (ns : List (List ℕ)). take b t ∷ ns)
    (entries-skip b t ∙ ap (entries 0) (sym (take_all (length t) (drop b t) (rw length-drop (omega arith)))))

module _ (t : List ℕ) (b i : ℕ) (w : List ℕ) where
  pub table_here : same w (part t 0 b) ≡ true → find (entries 0 (b ∷ t)) i w ≡ some i
  table_here e = rw (entries-first b t) (find-here w _ _ i e)

  pub table-past : same w (part t 0 b) ≡ false → find (entries 0 (b ∷ t)) i w ≡ find (entries 0 (part t b (length t))) (i + 1) w
  table-past e = rw (entries-first b t, add-one i) (find_past w _ _ i e)

pub table_end : (t : List ℕ) (i : ℕ) (w : List ℕ) → length t ≡ 0 → find (entries 0 t) i w ≡ none
unfolding entries find
table_end [] i w h = refl
table_end (b ∷ t) i w h = absurd (omega arith)
