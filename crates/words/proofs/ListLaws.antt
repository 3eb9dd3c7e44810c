-- Laws of the keys of a `match`: a number that is one of them, one that is none, the lists that have no word of some lengths, and words
-- that no list has.
use Prim.Native.Nat.{ℕ, zero, suc, ◌+◌, ◌*◌, ◌%◌, ◌/◌, ◌≤◌, ◌<◌}
use mathlib.Core.Bool.{Bool, true, false, ◌&&◌, ◌||◌, not, cond}
use mathlib.Core.List.{List, [], ◌∷◌}
use mathlib.Core.Path.{◌≡◌, refl, sym, ap, ◌∙◌}
use native.Mathlib.Omega.{arith}
use native.Mathlib.Nat.{div-add-mod'}
use lib.Arith.{digits_div, digits_mod}
use lib.Dec.{eqb, ltb}
use lib.ListN.{length, get_or, take}
use borrow.Author.Tests.{eqb-true, eqb-false, eq-eqb, ne_eqb, lt-ltb, le-ltb, not-true}
use Rattle.text.specs.Bytes.{same, one_of}
use Rattle.text.specs.Words.{is_some, find, shorter}
use Rattle.text.proofs.WordLaws.{find-long, find_clip}
use Rattle.std.specs.Prelude.{Option, None, Some}
use Rattle.words.specs.declared.List.{List as WordList}
use Rattle.words.specs.declared.List.TheVariants as list
use Rattle.words.specs.ListMeans.{list_of, all_lists}
use Rattle.words.proofs.Lists.{number, at_number}
use Rattle.words.specs.KeyMeans.{pack, packs, keys_of, seek, place_is}
use Rattle.words.proofs.KeyLaws.{never, both, every, Bytes, all_bytes, seek-find}

-- what 8 bytes are below
abbrev pub limb : ℕ
limb = 18446744073709551616

-- ---- a number that is no key

-- as the last arm of a `match` says it, the last key first
abbrev pub Apart : List ℕ → ℕ → Type 0
Apart [] v = Unit
Apart (k ∷ ks) v = Apart ks v × (v ≡ k → ⊥)

apart_none : (ks : List ℕ) (v : ℕ) → Apart ks v → one_of ks v ≡ false
unfolding one_of
apart_none [] v a = refl
apart_none (k ∷ ks) v a = rw (ne_eqb v k a.1, apart_none ks v a.0)

-- a test that each of some numbers passes, and v not
absent : (p : ℕ → Bool) (ms : List ℕ) (i v : ℕ) → every p ms ≡ true → p v ≡ false → seek ms i v ≡ None
unfolding every seek
absent p [] i v h e = refl
absent p (m ∷ ms) i v h e = go (eqb v m) refl (absent p ms (suc i) v (both (p m) (every p ms) h).1 e)
  where
    go : (a : Bool) → eqb v m ≡ a → seek ms (suc i) v ≡ None → cond a (Some i) (seek ms (suc i) v) ≡ None
    go true q ih = never (sym e ∙ (rw (eqb-true v m q) (both (p m) (every p ms) h).0))
    go false q ih = ih

-- ---- words of at most 7 bytes

-- whether a number is among some, or of a longer word
unfoldable pub short_in : List ℕ → ℕ → Bool
short_in ks m = one_of ks m || not (ltb m limb)

-- the numbers of the short words, the last first
unfoldable pub shorts : List ℕ → List ℕ → List ℕ
shorts [] ks = ks
shorts (m ∷ ms) ks = shorts ms (cond (ltb m limb) (m ∷ ks) ks)

module _ (ms : List ℕ) (v : ℕ) where
  pub key_at : (m i : ℕ) → v ≡ m → seek ms 0 m ≡ Some i → Some i ≡ seek ms 0 v
  key_at m i e h = rw e (sym h)

  none_of : (ks : List ℕ) → every (short_in ks) ms ≡ true → one_of ks v ≡ false → v < limb → None ≡ seek ms 0 v
  unfolding short_in
  none_of ks h e l = sym (absent (short_in ks) ms 0 v h (rw (e, lt-ltb v limb l)))

  pub no_key : every (short_in (shorts ms [])) ms ≡ true → Apart (shorts ms []) v → v < limb → None ≡ seek ms 0 v
  no_key h a l = none_of (shorts ms []) h (apart_none (shorts ms []) v a) l

  -- a list with one of them
  pub one_key : (m i : ℕ) → every (short_in (m ∷ [])) ms ≡ true → seek ms 0 m ≡ Some i → v < limb → cond (eqb v m) (Some i) None ≡ seek ms 0 v
  unfolding one_of
  one_key m i h e l = go (eqb v m) refl
    where
      go : (a : Bool) → eqb v m ≡ a → cond a (Some i) None ≡ seek ms 0 v
      go true q = key_at m i (eqb-true v m q) e
      go false q = none_of (m ∷ []) h (rw q) l

-- ---- longer words: the first 8 bytes, and what stands behind them

-- whether a number is what stands behind the first 8 bytes of a word of 8 to 15, and of one of 16 or more
unfoldable pub middle : ℕ → Bool
middle t = not (eqb t 0) && ltb t limb

unfoldable pub far : ℕ → Bool
far t = not (ltb t limb)

pub is_middle : (t : ℕ) → 1 ≤ t → t < limb → middle t ≡ true
unfolding middle
is_middle t z b = rw (ne_eqb t 0 (λ q. omega arith), lt-ltb t limb b)

pub is_far : (last t : ℕ) → 1 ≤ last → far (last * limb + t) ≡ true
unfolding far
is_far last t z = rw (le-ltb (last * limb + t) limb (omega arith))

-- whether a word begins with one of some 8 bytes, or is of other lengths
unfoldable pub head_in : (ℕ → Bool) → List ℕ → ℕ → Bool
head_in q ks m = one_of ks (m % limb) || not (q (m / limb))

-- the first 8 bytes of the words of some lengths, each once, the last first
unfoldable pub heads : (ℕ → Bool) → List ℕ → List ℕ → List ℕ
heads q [] ks = ks
heads q (m ∷ ms) ks = heads q ms (cond (q (m / limb) && not (one_of ks (m % limb))) (m % limb ∷ ks) ks)

-- whether one of some numbers stands behind the first 8 bytes of a word, or it begins with others, or is of other lengths
unfoldable pub tail_in : (ℕ → Bool) → ℕ → List ℕ → ℕ → Bool
tail_in q k ts m = one_of ts (m / limb) || (not (eqb (m % limb) k) || not (q (m / limb)))

-- what stands behind 8 given bytes
unfoldable pub tails : (ℕ → Bool) → ℕ → List ℕ → List ℕ → List ℕ
tails q k [] ts = ts
tails q k (m ∷ ms) ts = tails q k ms (cond (eqb (m % limb) k && q (m / limb)) (m / limb ∷ ts) ts)

module _ (q : ℕ → Bool) (ms : List ℕ) (v t : ℕ) (l : v < limb) (g : q t ≡ true) where
  pub word-at : (m i : ℕ) (r : Option ℕ) → v ≡ m % limb → r ≡ cond (eqb t (m / limb)) (Some i) None → every (tail_in q (m % limb) (m / limb ∷ [])) ms ≡ true
      → seek ms 0 m ≡ Some i → r ≡ seek ms 0 (t * limb + v)
  unfolding tail_in one_of
  word-at m i r e z h f = go (eqb t (m / limb)) refl z
    where
      go : (a : Bool) → eqb t (m / limb) ≡ a → r ≡ cond a (Some i) None → r ≡ seek ms 0 (t * limb + v)
      go true u y = y ∙ (rw (eqb-true t (m / limb) u, e, div-add-mod' m limb) (sym f))
      go false u y =
          y
          ∙ sym (absent (tail_in q (m % limb) (m / limb ∷ [])) ms 0 (t * limb + v) h
          (rw (digits_mod t {m = limb} l, digits_div t {m = limb} l, u, g, sym e, eq-eqb v v refl)))

  no_head_of : (ks : List ℕ) → every (head_in q ks) ms ≡ true → one_of ks v ≡ false → None ≡ seek ms 0 (t * limb + v)
  unfolding head_in
  no_head_of ks h e = sym (absent (head_in q ks) ms 0 (t * limb + v) h (rw (digits_mod t {m = limb} l, digits_div t {m = limb} l, e, g)))

  -- no word begins like that
  pub no_head : every (head_in q (heads q ms [])) ms ≡ true → Apart (heads q ms []) v → None ≡ seek ms 0 (t * limb + v)
  no_head h a = no_head_of (heads q ms []) h (apart_none (heads q ms []) v a)

  -- a word begins like that, and none goes on so
  pub no_tail : every (tail_in q v (tails q v ms [])) ms ≡ true → Apart (tails q v ms []) t → None ≡ seek ms 0 (t * limb + v)
  unfolding tail_in
  no_tail h a =
      sym (absent (tail_in q v (tails q v ms [])) ms 0 (t * limb + v) h
      (rw (digits_mod t {m = limb} l, digits_div t {m = limb} l, apart_none (tails q v ms []) t a, g, eq-eqb v v refl)))

  -- a list with one of them
  pub one_word : (m i : ℕ) (r : Option ℕ) → r ≡ cond (eqb v (m % limb) && eqb t (m / limb)) (Some i) None
      → every (tail_in q (m % limb) (m / limb ∷ [])) ms ≡ true
      → every (head_in q (m % limb ∷ [])) ms ≡ true → seek ms 0 m ≡ Some i → r ≡ seek ms 0 (t * limb + v)
  unfolding one_of
  one_word m i r e h k f = go (eqb v (m % limb)) refl e
    where
      go : (a : Bool) → eqb v (m % limb) ≡ a → r ≡ cond (a && eqb t (m / limb)) (Some i) None → r ≡ seek ms 0 (t * limb + v)
      go true u y = word-at m i r (eqb-true v (m % limb) u) y h f
      go false u y = y ∙ no_head_of (m % limb ∷ []) k (rw u)

-- what stands behind the first 8 bytes of a word
pub tail_at : (ms : List ℕ) (k t m i : ℕ) → t ≡ m / limb → k ≡ m % limb → seek ms 0 m ≡ Some i → Some i ≡ seek ms 0 (t * limb + k)
tail_at ms k t m i e g h = rw (e, g, div-add-mod' m limb) (sym h)

pub same_head : (ms : List ℕ) (v k t : ℕ) (r : Option ℕ) → v ≡ k → r ≡ seek ms 0 (t * limb + k) → r ≡ seek ms 0 (t * limb + v)
same_head ms v k t r e h = rw e h

-- ---- words of 16 bytes and more: the next 8, and what stands behind them

both_parts : (w last m : ℕ) → w < limb → (eqb w (m % limb) && eqb last (m / limb)) ≡ eqb (last * limb + w) m
both_parts w last m l = go (eqb w (m % limb)) refl (eqb last (m / limb)) refl
  where
    go : (a : Bool) → eqb w (m % limb) ≡ a → (b : Bool) → eqb last (m / limb) ≡ b → (a && b) ≡ eqb (last * limb + w) m
    go true e true f =
        sym (eq-eqb (last * limb + w) m (rw (eqb-true w (m % limb) e, eqb-true last (m / limb) f) (div-add-mod' m limb)))
    go true e false f =
        sym (ne_eqb (last * limb + w) m (λ q. eqb-false last (m / limb) f (rw (sym q) (sym (digits_div last {m = limb} l)))))
    go false e b f =
        sym (ne_eqb (last * limb + w) m (λ q. eqb-false w (m % limb) e (rw (sym q) (sym (digits_mod last {m = limb} l)))))

pub pair_is : (w last m i : ℕ) (r : Option ℕ) → w < limb → r ≡ cond (eqb w (m % limb) && eqb last (m / limb)) (Some i) None
    → r ≡ cond (eqb (last * limb + w) m) (Some i) None
pair_is w last m i r l h = rw (sym (both_parts w last m l)) h

-- no other word begins with the same 16 bytes
unfoldable pub alone : ℕ → ℕ → Bool
alone m k = eqb (k / limb / limb) (m / limb / limb) || not (eqb (k % limb) (m % limb) && eqb (k / limb % limb) (m / limb % limb))

pub next-at : (ms : List ℕ) (k w last m i : ℕ) (r : Option ℕ) → k < limb → w < limb → k ≡ m % limb → w ≡ m / limb % limb
    → r ≡ cond (eqb last (m / limb / limb)) (Some i) None → every (alone m) ms ≡ true → seek ms 0 m ≡ Some i
    → r ≡ seek ms 0 ((last * limb + w) * limb + k)
unfolding alone
next-at ms k w last m i r g l e f z h n = go (eqb last (m / limb / limb)) refl z
  where
    go : (a : Bool) → eqb last (m / limb / limb) ≡ a → r ≡ cond a (Some i) None → r ≡ seek ms 0 ((last * limb + w) * limb + k)
    go true u y =
        y ∙ (rw (eqb-true last (m / limb / limb) u, f, div-add-mod' (m / limb) limb, e, div-add-mod' m limb) (sym n))
    go false u y =
        y
        ∙ sym (absent (alone m) ms 0 ((last * limb + w) * limb + k) h
        (rw (
          digits_mod (last * limb + w) {m = limb} g,
          digits_div (last * limb + w) {m = limb} g,
          digits_mod last {m = limb} l,
          digits_div last {m = limb} l,
          u,
          sym e,
          sym f,
          eq-eqb k k refl,
          eq-eqb w w refl,
        )))

-- whether some 8 bytes stand behind the first 8 of a word, or it begins with others, or is shorter
unfoldable pub next_in : ℕ → List ℕ → ℕ → Bool
next_in k ws m = one_of ws (m / limb % limb) || (not (eqb (m % limb) k) || not (far (m / limb)))

-- the 8 bytes that stand behind 8 given ones
unfoldable pub nexts : ℕ → List ℕ → List ℕ → List ℕ
nexts k [] ws = ws
nexts k (m ∷ ms) ws = nexts k ms (cond (eqb (m % limb) k && far (m / limb)) (m / limb % limb ∷ ws) ws)

pub no_next : (ms : List ℕ) (k w last : ℕ) → k < limb → w < limb → 1 ≤ last → every (next_in k (nexts k ms [])) ms ≡ true
    → Apart (nexts k ms []) w → None ≡ seek ms 0 ((last * limb + w) * limb + k)
unfolding next_in
no_next ms k w last g l z h a =
    sym (absent (next_in k (nexts k ms [])) ms 0 ((last * limb + w) * limb + k) h
    (rw (
      digits_mod (last * limb + w) {m = limb} g,
      digits_div (last * limb + w) {m = limb} g,
      digits_mod last {m = limb} l,
      apart_none (nexts k ms []) w a,
      is_far last w z,
      eq-eqb k k refl,
    )))

-- ---- the lists

-- a test of each list
unfoldable pub every_list : (WordList → Bool) → Bool
every_list q = every q all_lists

every-at : (q : WordList → Bool) (ks : List WordList) (n : ℕ) (k : WordList) → q k ≡ true → every q ks ≡ true
    → q (get_or ks n k) ≡ true
unfolding every
every-at q [] n k g h = g
every-at q (j ∷ ks) zero k g h = (both (q j) (every q ks) h).0
every-at q (j ∷ ks) (suc n) k g h = every-at q ks n k g (both (q j) (every q ks) h).1

each-test : (q : WordList → Bool) (k : WordList) → every_list q ≡ true → q k ≡ true
unfolding every_list every
each-test q k h = sym (ap q (at_number k)) ∙ every-at q all_lists (number k) list.Nodes (both (q list.Nodes) _ h).0 h

pub each-list : (q : List (List ℕ) → Bool) (k : WordList) → every_list (λ (j : WordList). q (list_of j)) ≡ true → q (list_of k) ≡ true
each-list q k h = each-test (λ (j : WordList). q (list_of j)) k h

-- whether a list is one of some
unfoldable pub among : List WordList → WordList → Bool
among [] k = false
among (j ∷ ks) k = eqb (number k) (number j) || among ks k

abbrev pub NoneOf : List WordList → WordList → Type 0
NoneOf [] k = Unit
NoneOf (j ∷ ks) k = (k ≡ j → ⊥) × NoneOf ks k

number-same : (k j : WordList) → number k ≡ number j → k ≡ j
number-same k j e = sym (at_number k) ∙ ap (λ (n : ℕ). get_or all_lists n list.Nodes) e ∙ at_number j

among_none : (ks : List WordList) (k : WordList) → NoneOf ks k → among ks k ≡ false
unfolding among
among_none [] k a = refl
among_none (j ∷ ks) k a = rw (ne_eqb (number k) (number j) (λ q. a.0 (number-same k j q)), among_none ks k a.1)

-- a test of the lists that are none of some
abbrev pub besides : (List (List ℕ) → Bool) → List WordList → WordList → Bool
besides q ks k = among ks k || q (list_of k)

other_list : (q : List (List ℕ) → Bool) (ks : List WordList) (k : WordList) → every_list (besides q ks) ≡ true → NoneOf ks k
    → q (list_of k) ≡ true
other_list q ks k h a = rw (among_none ks k a) at (each-test (besides q ks) k h)

unfoldable pub none_short : List (List ℕ) → Bool
none_short ns = every (short_in []) (packs ns)

unfoldable pub none_from : (ℕ → Bool) → List (List ℕ) → Bool
none_from q ns = every (head_in q []) (packs ns)

module _ (ks : List WordList) (k : WordList) (a : NoneOf ks k) where
  pub no_short : (v : ℕ) → every_list (besides none_short ks) ≡ true → v < limb → None ≡ seek (keys_of k) 0 v
  unfolding none_short keys_of packs every one_of
  no_short v h l = none_of (packs (list_of k)) v [] (other_list none_short ks k h a) refl l

  pub no_word : (q : ℕ → Bool) (v t : ℕ) → v < limb → q t ≡ true → every_list (besides (none_from q) ks) ≡ true
      → None ≡ seek (keys_of k) 0 (t * limb + v)
  unfolding none_from keys_of packs every one_of
  no_word q v t l g h = no_head_of q (packs (list_of k)) v t l g [] (other_list (none_from q) ks k h a) refl

-- a list by its name
pub by_list : (k j : WordList) (x : ℕ) (r : Option ℕ) → k ≡ j → r ≡ seek (keys_of j) 0 x → r ≡ seek (keys_of k) 0 x
by_list k j x r e h = rw e h

-- ---- a word by its number, in any list

list-bytes : (k : WordList) → all_bytes (list_of k) ≡ true
unfolding all_bytes every every_list list_of
list-bytes k = each-list all_bytes k refl

pub key_found : (k : WordList) (w : List ℕ) (v : ℕ) (r : Option ℕ) → Bytes w → v ≡ pack w → r ≡ seek (keys_of k) 0 v
    → place_is r ≡ find (list_of k) 0 w
unfolding keys_of
key_found k w v r f e h = (rw (h, e)) ∙ seek-find (list_of k) 0 w f (list-bytes k)

-- ---- words that no list has

list_short : (k : WordList) → shorter 24 (list_of k) ≡ true
unfolding shorter every every_list list_of
list_short k = each-list (shorter 24) k refl

pub too_long : (k : WordList) (w : List ℕ) → 24 ≤ length w → place_is None ≡ find (list_of k) 0 w
unfolding place_is
too_long k w l = sym (find-long (list_of k) 0 24 w (list_short k) l)

-- so the first 24 bytes of a word are enough to look it up
pub list_clip : (k : WordList) (w : List ℕ) → find (list_of k) 0 (take 24 w) ≡ find (list_of k) 0 w
list_clip k w = find_clip (list_of k) 0 24 w (list_short k)

-- the empty word
unfoldable pub no_empty : List (List ℕ) → Bool
no_empty ns = not (is_some (find ns 0 []))

pub no_empty_lem : (k : WordList) (w : List ℕ) → length w ≡ 0 → false ≡ is_some (find (list_of k) 0 w)
unfolding no_empty find same every every_list list_of
no_empty_lem k [] e = sym (not-true (is_some (find (list_of k) 0 [])) (each-list no_empty k refl))
no_empty_lem k (b ∷ w) e = absurd (omega arith)
