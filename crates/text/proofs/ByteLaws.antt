-- Laws of sets of bytes, runs and parts.
use Prim.Native.Nat.{ℕ, zero, suc, ◌+◌, ◌-◌, ◌≤◌, ◌<◌}
use mathlib.Core.List.{List, [], ◌∷◌, ◌++◌}
use mathlib.Core.Bool.{Bool, true, false, ◌&&◌, ◌||◌, cond}
use mathlib.Core.Path.{◌≡◌, refl, sym, ap, ◌∙◌}
use native.Mathlib.Omega.{arith}
use native.Mathlib.Numerals.{add-one, one-add}
use lib.Dec.{leb, ltb, eqb}
use lib.ListN.{length, get_or, take, drop, drop_of_length-le, length-drop, length-take}
use lib.Seq.{drop-cons, take-nil, take-suc, take_all}
use borrow.Author.Tests.{eq-eqb, ne_eqb, leb-true, le-leb, lt-leb, ltb-true, ltb-false}
use Rattle.std.specs.Prelude.{not, Some, None}
use Rattle.std.specs.Option.{unwrap_or}
use Rattle.std.specs.List.{list_any, position_or_len, slice_range}
use Rattle.text.specs.Bytes.{run, one_of, is_foreign, part, within, lower, lowered}

-- ---- sets of bytes

-- what `any` answers on a set
pub any-one_of : (b : ℕ) (s : List ℕ) → list_any (eqb b) s ≡ one_of s b
unfolding one_of
any-one_of b [] = refl
any-one_of b (c ∷ cs) = ap (λ (t : Bool). eqb b c || t) (any-one_of b cs)

pub has_yes : (s : List ℕ) (i b : ℕ) → i < length s → get_or s i 0 ≡ b → one_of (drop i s) b ≡ true
unfolding one_of
has_yes s i b h e = rw (drop-cons s i 0, eq-eqb b (get_or s i 0) (sym e))

pub has_no : (s : List ℕ) (i b : ℕ) → i < length s → (get_or s i 0 ≡ b → ⊥) → one_of (drop i s) b ≡ one_of (drop (i + 1) s) b
unfolding one_of
has_no s i b h e = rw (add-one, drop-cons s i 0, ne_eqb b (get_or s i 0) (λ q. e (sym q)))

pub has_end : (s : List ℕ) (i b : ℕ) → length s ≤ i → one_of (drop i s) b ≡ false
unfolding one_of
has_end s i b h = rw (drop_of_length-le s h)

-- ---- comparisons one after another, as code has them

unfoldable pub tests : Bool → List ℕ → ℕ → Bool
tests x [] b = x
tests x (c ∷ cs) b = tests (x || eqb b c) cs b

tests_or : (x : Bool) (cs : List ℕ) (b : ℕ) → tests x cs b ≡ (x || one_of cs b)
unfolding tests one_of
tests_or true [] b = refl
tests_or false [] b = refl
tests_or true (c ∷ cs) b = tests_or true cs b
tests_or false (c ∷ cs) b = tests_or (eqb b c) cs b

pub tests_are : (c : ℕ) (cs : List ℕ) (b : ℕ) → tests (eqb b c) cs b ≡ one_of (c ∷ cs) b
unfolding one_of
tests_are c cs b = tests_or (eqb b c) cs b

none_of_two : (p q : Bool) → (not p && not q) ≡ not (p || (q || false))
none_of_two true q = refl
none_of_two false true = refl
none_of_two false false = refl

pub neither_is : (c d b : ℕ) → (not (eqb b c) && not (eqb b d)) ≡ not (one_of (c ∷ d ∷ []) b)
unfolding one_of
neither_is c d b = none_of_two (eqb b c) (eqb b d)

-- ---- foreign bytes

none_of : (p q r : Bool) → ((((true && not p) && not q) && not r) || false) ≡ not (p || (q || (r || false)))
none_of true q r = refl
none_of false true r = refl
none_of false false true = refl
none_of false false false = refl

-- three tests below the printable bytes, and one above them
pub foreign_is : (b : ℕ) → ((((ltb b 32 && not (eqb b 9)) && not (eqb b 10)) && not (eqb b 13)) || ltb 126 b) ≡ is_foreign b
unfolding one_of
foreign_is b = go (ltb b 32) (ltb 126 b) refl refl
  where
    go : (x y : Bool) → ltb b 32 ≡ x → ltb 126 b ≡ y → ((((x && not (eqb b 9)) && not (eqb b 10)) && not (eqb b 13)) || y) ≡ is_foreign b
    go true true h k = absurd (let a = ltb-true b 32 h in let c = ltb-true 126 b k in omega arith)
    go true false h k = rw (lt-leb 32 b (ltb-true b 32 h)) (none_of (eqb b 9) (eqb b 10) (eqb b 13))
    go false true h k =
        let c = ltb-true 126 b k in
        rw (
          lt-leb b 126 c,
          le-leb 32 b (omega arith),
          ne_eqb b 9 (λ e. omega arith),
          ne_eqb b 10 (λ e. omega arith),
          ne_eqb b 13 (λ e. omega arith),
        )
    go false false h k = rw (le-leb 32 b (ltb-false b 32 h), le-leb b 126 (ltb-false 126 b k))

-- ---- runs

-- where `position` finds the first byte that does not pass
pub position-run : (p : ℕ → Bool) (s : List ℕ) → position_or_len (λ b. not (p b)) s ≡ run p s
unfolding run
position-run p [] = refl
position-run p (b ∷ bs) = go (p b) (position-run p bs)
  where
    go : (t : Bool) → position_or_len (λ b. not (p b)) bs ≡ run p bs
        → cond (not (not t)) (1 + position_or_len (λ b. not (p b)) bs) 0 ≡ elim t [ true ↦ suc (run p bs) | false ↦ 0 ]
    go true e = rw (e, one-add)
    go false e = refl

pub run_yes : (p : ℕ → Bool) (b : ℕ) (bs : List ℕ) → p b ≡ true → run p (b ∷ bs) ≡ suc (run p bs)
unfolding run
run_yes p b bs h = rw (h, run)

pub run_no : (p : ℕ → Bool) (b : ℕ) (bs : List ℕ) → p b ≡ false → run p (b ∷ bs) ≡ 0
unfolding run
run_no p b bs h = rw (h, run)

pub run_at : (p : ℕ → Bool) (s : List ℕ) (i : ℕ) → i < length s → p (get_or s i 0) ≡ true → run p (drop i s) ≡ suc (run p (drop (i + 1) s))
run_at p s i h e = rw (add-one, drop-cons s i 0) (run_yes p _ _ e)

pub run_end : (p : ℕ → Bool) (s : List ℕ) (i : ℕ) → i < length s → p (get_or s i 0) ≡ false → run p (drop i s) ≡ 0
run_end p s i h e = rw (drop-cons s i 0) (run_no p _ _ e)

-- what `&text[from..]` is
pub range-drop : (t : List ℕ) (from : ℕ) → slice_range t from (length t) ≡ drop from t
range-drop t from = take_all (length t - from) (drop from t) (rw length-drop (omega arith))

-- past the end there is no run
pub run_past : (p : ℕ → Bool) (s : List ℕ) (from : ℕ) → length s ≤ from → run p (drop from s) ≡ 0
unfolding run
run_past p s from h = rw (drop_of_length-le s h)

-- a run is at most as long as the text
pub run_le : (p : ℕ → Bool) (l : List ℕ) → run p l ≤ length l
unfolding run
run_le p [] = omega arith
run_le p (b ∷ bs) = go (run_le p bs) (p b) refl
  where
    go : run p bs ≤ length bs → (t : Bool) → p b ≡ t → run p (b ∷ bs) ≤ length (b ∷ bs)
    go r true e = rw (run_yes p b bs e) (omega arith)
    go r false e = rw (run_no p b bs e) (omega arith)

-- what `position` answers, with the length in place of none
pub run_found : (p : ℕ → Bool) (s : List ℕ)
    → unwrap_or (cond (ltb (position_or_len (λ b. not (p b)) s) (length s)) (Some (position_or_len (λ b. not (p b)) s)) None) (length s)
    ≡ run p s
run_found p s = go (ltb (position_or_len (λ b. not (p b)) s) (length s)) refl
  where
    go : (t : Bool) → ltb (position_or_len (λ b. not (p b)) s) (length s) ≡ t
        → unwrap_or (cond t (Some (position_or_len (λ b. not (p b)) s)) None) (length s) ≡ run p s
    go true e = position-run p s
    go false e = omega (arith, ltb-false (position_or_len (λ b. not (p b)) s) (length s) e, position-run p s, run_le p s)

-- each byte of a run passes
pub run_in : (p : ℕ → Bool) (l : List ℕ) (j : ℕ) → j < run p l → p (get_or l j 0) ≡ true
unfolding run
run_in p [] j h = absurd (omega arith)
run_in p (b ∷ bs) j h = go (run_in p bs) j (p b) refl h
  where
    go : ((j : ℕ) → j < run p bs → p (get_or bs j 0) ≡ true) → (j : ℕ) (t : Bool)
        → p b ≡ t → j < run p (b ∷ bs) → p (get_or (b ∷ bs) j 0) ≡ true
    go r zero true e h = e
    go r (suc j) true e h = r j (let h' : suc j < suc (run p bs) = rw (run_yes p b bs e) at h in omega arith)
    go r j false e h = absurd (let h' : j < 0 = rw (run_no p b bs e) at h in omega arith)

-- the byte behind a run does not pass
pub run_stop : (p : ℕ → Bool) (l : List ℕ) → run p l < length l → p (get_or l (run p l) 0) ≡ false
unfolding run
run_stop p [] h = absurd (omega arith)
run_stop p (b ∷ bs) h = go (run_stop p bs) (p b) refl
  where
    by : (n : ℕ) → run p (b ∷ bs) ≡ n → p (get_or (b ∷ bs) n 0) ≡ false → p (get_or (b ∷ bs) (run p (b ∷ bs)) 0) ≡ false
    by n e q = rw e q

    go : (run p bs < length bs → p (get_or bs (run p bs) 0) ≡ false) → (t : Bool) → p b ≡ t → p (get_or (b ∷ bs) (run p (b ∷ bs)) 0) ≡ false
    go r true e = by _ (run_yes p b bs e) (r (omega (arith, run_yes p b bs e)))
    go r false e = by _ (run_no p b bs e) e

-- ---- parts

pub part_off : (t : List ℕ) (start size : ℕ) → length t ≤ start → [] ≡ part t start size
part_off t start size h = rw (drop_of_length-le t {i = start} h, take-nil)

pub part-all : (t : List ℕ) (start size : ℕ) → length t - start ≤ size → take (length t - start) (drop start t) ≡ part t start size
part-all t start size h =
    take_all (length t - start) (drop start t) (rw length-drop (omega arith)) ∙ sym (take_all size (drop start t) (rw length-drop h))

pub part_in : (t : List ℕ) (start size : ℕ) → take (start + size - start) (drop start t) ≡ part t start size
part_in t start size = let e : start + size - start ≡ size = omega arith in rw e

pub part_le : (t : List ℕ) (start size : ℕ) → length (part t start size) ≤ length t
part_le t start size = rw (length-take, length-drop) (omega arith)

-- ---- classes, and small letters

pub within_is : (lo hi b : ℕ) → within lo hi b ≡ true → (lo ≤ b) × (b ≤ hi)
within_is lo hi b h = go (leb lo b) refl h
  where
    go : (t : Bool) → leb lo b ≡ t → (t && leb b hi) ≡ true → (lo ≤ b) × (b ≤ hi)
    go true e q = (leb-true lo b e, leb-true b hi q)
    go false e q = absurd (let z : ◌≡◌ {A = ℕ} 0 1 = cc in omega arith)

pub lowered-at : (w : List ℕ) (i : ℕ) → i < length w → lowered (drop i w) ≡ lower (get_or w i 0) ∷ lowered (drop (i + 1) w)
unfolding lowered
lowered-at w i h = rw (add-one, drop-cons w i 0)

pub lowered_end : (w : List ℕ) (i : ℕ) → length w ≤ i → lowered (drop i w) ≡ []
unfolding lowered
lowered_end w i h = rw (drop_of_length-le w h)

lowered-append : (xs ys : List ℕ) → lowered (xs ++ ys) ≡ lowered xs ++ lowered ys
unfolding lowered
lowered-append [] ys = refl
lowered-append (x ∷ xs) ys = ap (λ (t : List ℕ). lower x ∷ t) (lowered-append xs ys)

pub lowered_more : (w : List ℕ) (i : ℕ) → i < length w → lowered (take (i + 1) w) ≡ lowered (take i w) ++ lower (get_or w i 0) ∷ []
unfolding lowered
lowered_more w i h = rw (add-one, take-suc w i 0) (lowered-append (take i w) (get_or w i 0 ∷ []))

pub lowered-take : (n : ℕ) (w : List ℕ) → lowered (take n w) ≡ take n (lowered w)
unfolding lowered
lowered-take zero w = refl
lowered-take (suc n) [] = refl
lowered-take (suc n) (b ∷ bs) = ap (λ (t : List ℕ). lower b ∷ t) (lowered-take n bs)

pub length-lowered : (w : List ℕ) → length (lowered w) ≡ length w
unfolding lowered
length-lowered [] = refl
length-lowered (b ∷ bs) = ap suc (length-lowered bs)
