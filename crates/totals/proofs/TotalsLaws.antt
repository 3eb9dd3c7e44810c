-- Words with numbers added, sums, and the limit of a figure.
use Prim.Native.Nat.{ℕ, zero, suc, ◌+◌, ◌*◌, ◌-◌, ◌≤◌, ◌<◌, min}
use mathlib.Core.Bool.{Bool, true, false, ◌||◌}
use mathlib.Core.List.{List, [], ◌∷◌}
use mathlib.Core.Path.{◌≡◌, refl, sym, ap, ◌∙◌}
use native.Mathlib.Nat.{le_of_suc-le-suc, le_of_lt}
use Rattle.std.proofs.Math.Nat.{min-eq_left, min-eq_right}
use native.Mathlib.Omega.{arith}
use native.Mathlib.Numerals.{add-one}
use lib.Dec.{eqb, leb, ltb}
use lib.ListN.{length, get_or, set, take, drop, length-set, length-take, drop_of_length-le}
use lib.Seq.{drop-cons, ext_get_or, get_or-set_same, get_or-set_other}
use borrow.Author.Tests.{leb-true, leb-false, eqb-true, eqb-false, ltb-false, lt-ltb, le-ltb}
use Rattle.std.specs.List.{list_any, sum_by}
use Rattle.std.proofs.lemmas.List.{drop-take}
use Rattle.std.proofs.lemmas.List.Recursion.{is_sum_by}
use Rattle.totals.specs.Totals.{figure_limit, sum_of, itself, over, added_from, added, in_word}

-- ---- numbers added to words

pub length-added : (i : ℕ) (f : ℕ → ℕ) (ws : List ℕ) → length (added_from i f ws) ≡ length ws
unfolding added_from
length-added i f [] = refl
length-added i f (w ∷ ws) = ap suc (length-added (suc i) f ws)

added_from_lem : (i : ℕ) (f : ℕ → ℕ) (ws : List ℕ) (j : ℕ) → j < length ws → get_or (added_from i f ws) j 0 ≡ get_or ws j 0 + f (i + j)
unfolding added_from
added_from_lem i f [] j h = absurd (omega arith)
added_from_lem i f (w ∷ ws) zero h = let e : i + 0 ≡ i = omega arith in ap (λ (k : ℕ). w + f k) (sym e)
added_from_lem i f (w ∷ ws) (suc j) h =
    let e : suc i + j ≡ i + suc j = omega arith in
    added_from_lem (suc i) f ws j (le_of_suc-le-suc h) ∙ ap (λ (k : ℕ). get_or ws j 0 + f k) e

pub word-added : (f : ℕ → ℕ) (ws : List ℕ) (j : ℕ) → j < length ws → get_or (added f ws) j 0 ≡ get_or ws j 0 + f j
word-added f ws j h = let e : 0 + j ≡ j = omega arith in rw e at (added_from_lem 0 f ws j h)

pub added-same : (i : ℕ) (f g : ℕ → ℕ) → ((j : ℕ) → f j ≡ g j) → (ws : List ℕ) → added_from i f ws ≡ added_from i g ws
unfolding added_from
added-same i f g h [] = refl
added-same i f g h (w ∷ ws) = (λ k. (w + h i k) ∷ added-same (suc i) f g h ws k)

pub added_twice : (i : ℕ) (f g : ℕ → ℕ) (ws : List ℕ) → added_from i f (added_from i g ws) ≡ added_from i (λ j. g j + f j) ws
unfolding added_from
added_twice i f g [] = refl
added_twice i f g (w ∷ ws) =
    let e : w + g i + f i ≡ w + (g i + f i) = omega arith in (λ k. e k ∷ added_twice (suc i) f g ws k)

pub added_none : (i : ℕ) (ws : List ℕ) → added_from i (λ j. 0) ws ≡ ws
unfolding added_from
added_none i [] = refl
added_none i (w ∷ ws) = let e : w + 0 ≡ w = omega arith in (λ k. e k ∷ added_none (suc i) ws k)

-- one word
pub set-added : (ws : List ℕ) (i n : ℕ) → i < length ws → set ws i (get_or ws i 0 + n) ≡ added (in_word i n) ws
set-added ws i n h =
    ext_get_or 0 (set ws i (get_or ws i 0 + n)) (added (in_word i n) ws) (length-set ws i _ ∙ sym (length-added 0 (in_word i n) ws))
    (λ j l. at j (omega (arith, length-set ws i (get_or ws i 0 + n))) (eqb j i) refl)
  where
    at : (j : ℕ) → j < length ws → (b : Bool) → eqb j i ≡ b
        → get_or (set ws i (get_or ws i 0 + n)) j 0 ≡ get_or (added (in_word i n) ws) j 0
    at j l true q =
        let e = eqb-true j i q in
        ap (λ (k : ℕ). get_or (set ws i (get_or ws i 0 + n)) k 0) e ∙ get_or-set_same ws i (get_or ws i 0 + n) 0 h
        ∙ sym (word-added (in_word i n) ws j l ∙ (rw (q, e) refl))
    at j l false q =
        get_or-set_other ws i j (get_or ws i 0 + n) 0 (eqb-false j i q)
        ∙ sym (word-added (in_word i n) ws j l ∙ (rw q (omega arith)))

-- ---- the limit of a figure

-- what `any` answers
pub any-over : (ws : List ℕ) → list_any (ltb figure_limit) ws ≡ over ws
unfolding over
any-over [] = refl
any-over (w ∷ ws) = ap (λ (b : Bool). ltb figure_limit w || b) (any-over ws)

module _ (ws : List ℕ) (i : ℕ) where
  pub over-here : i < length ws → figure_limit < get_or ws i 0 → over (drop i ws) ≡ true
  unfolding over
  over-here h l = rw (drop-cons ws i 0 h, lt-ltb figure_limit (get_or ws i 0) l)

  pub over-next : i < length ws → get_or ws i 0 ≤ figure_limit → over (drop (i + 1) ws) ≡ over (drop i ws)
  unfolding over
  over-next h l = rw (add-one, drop-cons ws i 0 h, le-ltb figure_limit (get_or ws i 0) l)

  pub over_end : length ws ≤ i → over (drop i ws) ≡ false
  unfolding over
  over_end h = rw (drop_of_length-le ws {i = i} h)

pub within : (ws : List ℕ) → over ws ≡ false → (i : ℕ) → get_or ws i 0 ≤ figure_limit
unfolding over
within [] e i = omega arith
within (w ∷ ws) e i = go (ltb figure_limit w) refl e (within ws) i
  where
    go : (b : Bool) → ltb figure_limit w ≡ b → (b || over ws) ≡ false → (over ws ≡ false → (i : ℕ) → get_or ws i 0 ≤ figure_limit) → (i : ℕ)
        → get_or (w ∷ ws) i 0 ≤ figure_limit
    go true q e r i = absurd (let z : ◌≡◌ {A = ℕ} 0 1 = cc in omega arith)
    go false q e r zero = ltb-false figure_limit w q
    go false q e r (suc i) = r e i

-- ---- sums

-- the words up to one, without those before another
pub drop-upto : (ws : List ℕ) (i j : ℕ) → drop i (take j ws) ≡ take (j - i) (drop i ws)
drop-upto ws i j = go (leb i j) refl
  where
    go : (b : Bool) → leb i j ≡ b → drop i (take j ws) ≡ take (j - i) (drop i ws)
    go true e =
        let h = leb-true i j e in
        let k : j ≡ i + (j - i) = omega arith in
        ap (λ (n : ℕ). drop i (take n ws)) k ∙ drop-take i (j - i) ws
    go false e =
        let h = leb-false i j e in
        let k : j - i ≡ 0 = omega arith in
        drop_of_length-le (take j ws) {i = i} (omega (arith, length-take j ws)) ∙ (rw k)

-- the words from i to j
abbrev pub between : ℕ → ℕ → List ℕ → List ℕ
between i j ws = take (j - i) (drop i ws)

pub sum-next : (ws : List ℕ) (i j : ℕ) → i < j → i < length ws
    → sum_of itself (between i j ws) ≡ get_or ws i 0 + sum_of itself (between (i + 1) j ws)
unfolding sum_of
sum-next ws i j h l = let e : j - i ≡ suc (j - (i + 1)) = omega arith in rw (e, add-one, drop-cons ws i 0 l)

pub sum_end : (ws : List ℕ) (i j : ℕ) → j ≤ i → sum_of itself (between i j ws) ≡ 0
unfolding sum_of
sum_end ws i j h = let e : j - i ≡ 0 = omega arith in rw e refl

-- the words from one to another, or none where the first is above the second
pub between-min : (ws : List ℕ) (i j k : ℕ) → k ≡ min i j → take (j - k) (drop k ws) ≡ take (j - i) (drop i ws)
between-min ws i j k m = go (leb i j) refl
  where
    go : (b : Bool) → leb i j ≡ b → take (j - k) (drop k ws) ≡ take (j - i) (drop i ws)
    go true e = let h : k ≡ i = m ∙ min-eq_left (leb-true i j e) in rw h
    go false e =
        let l = leb-false i j e in
        let h : k ≡ j = m ∙ min-eq_right (le_of_lt l) in
        let a : j - k ≡ 0 = omega (arith, h) in
        let b : j - i ≡ 0 = omega arith in rw (a, b)

pub sum-itself : (ws : List ℕ) → sum_by itself ws ≡ sum_of itself ws
unfolding sum_of
sum-itself ws = sym (is_sum_by (sum_of itself) itself refl (λ w ws. refl) ws)

-- k words of 32 bits
pub sum-fits : (k : ℕ) (ws : List ℕ) → ((i : ℕ) → get_or ws i 0 < 4294967296) → sum_of itself (take k ws) ≤ k * 4294967295
unfolding sum_of
sum-fits zero ws h = omega arith
sum-fits (suc k) [] h = omega arith
sum-fits (suc k) (w ∷ ws) h = omega (arith, h 0, sum-fits k ws (λ i. h (suc i)))

-- k words within the limit
pub sum-within : (k : ℕ) (ws : List ℕ) → ((i : ℕ) → get_or ws i 0 ≤ figure_limit) → sum_of itself (take k ws) ≤ k * figure_limit
unfolding sum_of
sum-within zero ws h = omega arith
sum-within (suc k) [] h = omega arith
sum-within (suc k) (w ∷ ws) h = omega (arith, h 0, sum-within k ws (λ i. h (suc i)))
