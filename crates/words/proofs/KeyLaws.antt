-- Laws of words as numbers: a word's number tells the word, and its place among a list's numbers is the word's place in the list.
use Prim.Native.Nat.{ℕ, zero, suc, ◌+◌, ◌*◌, ◌-◌, ◌^◌, ◌%◌, ◌≤◌, ◌<◌}
use mathlib.Core.Bool.{Bool, true, false, ◌&&◌, cond}
use mathlib.Core.List.{List, [], ◌∷◌}
use mathlib.Core.Option as maybe
use mathlib.Core.Path.{◌≡◌, refl, sym, ap, ◌∙◌}
use native.Mathlib.Omega.{arith}
use lib.Dec.{eqb, ltb}
use lib.ListN.{length, get_or, take, drop, length-drop}
use lib.Seq.{drop-cons, drop-drop, get_or-take, get_or-drop, take-nil, take-take, length-take-le}
use native.Mathlib.Nat.{pow-suc, pow-le-pow_right, mul_assoc, one-mul, zero-add, mod-one, mod-lt, mod-eq_of_lt}
use lib.Pow.{pow-add}
use lib.Arith.{mod-mul, digits_div, digits_mod}
use borrow.Author.Tests.{eq-eqb, ne_eqb, ltb-true}
use Rattle.std.specs.Prelude.{Option, None, Some, is_some as found}
use Rattle.text.specs.Bytes.{same, part}
use Rattle.text.specs.Words.{is_some, find}
use Rattle.text.proofs.WordLaws.{same_eq, same_refl, find-here, find_past}
use Rattle.words.specs.KeyMeans.{onto, pack, packs, seek, place_is}

-- ---- tests

pub never : {A : Type 0} → false ≡ true → A
never e = let z : ◌≡◌ {A = ℕ} 0 1 = cc in absurd (omega arith)

pub both : (a b : Bool) → (a && b) ≡ true → (a ≡ true) × (b ≡ true)
both true b h = (refl, h)
both false b h = never h

unfoldable pub every : {A : Type 0} → (A → Bool) → List A → Bool
every p [] = true
every p (c ∷ cs) = p c && every p cs

-- ---- a word's number tells the word

abbrev pub Bytes : List ℕ → Type 0
Bytes w = (j : ℕ) → j < length w → get_or w j 0 < 256

bytes_tail : (b : ℕ) (w : List ℕ) → Bytes (b ∷ w) → Bytes w
bytes_tail b w h = λ j l. h (suc j) (omega arith)

pub pack_some : (w : List ℕ) → 1 ≤ pack w
unfolding onto
pack_some [] = omega arith
pack_some (b ∷ w) = omega (arith, pack_some w)

pack_eq : (w u : List ℕ) → Bytes w → Bytes u → pack w ≡ pack u → w ≡ u
unfolding onto
pack_eq [] [] f g e = refl
pack_eq [] (c ∷ u) f g e = absurd (omega (arith, pack_some u))
pack_eq (b ∷ w) [] f g e = absurd (omega (arith, pack_some w))
pack_eq (b ∷ w) (c ∷ u) f g e =
    let k = f 0 (omega arith) in
    let l = g 0 (omega arith) in
    let i : b ≡ c = omega arith in
    rw (i, pack_eq w u (bytes_tail b w f) (bytes_tail c u g) (omega arith))

-- whether the words of a list have bytes
unfoldable pub all_bytes : List (List ℕ) → Bool
all_bytes [] = true
all_bytes (w ∷ ws) = every (λ (b : ℕ). ltb b 256) w && all_bytes ws

every-bytes : (w : List ℕ) → every (λ (b : ℕ). ltb b 256) w ≡ true → Bytes w
unfolding every
every-bytes [] h = λ j l. absurd (omega arith)
every-bytes (b ∷ w) h = go (both (ltb b 256) (every (λ (b : ℕ). ltb b 256) w) h).0 (every-bytes w (both (ltb b 256) _ h).1)
  where
    go : ltb b 256 ≡ true → Bytes w → Bytes (b ∷ w)
    go e f zero l = ltb-true b 256 e
    go e f (suc j) l = f j (omega arith)

pub seek-find : (ns : List (List ℕ)) (i : ℕ) (w : List ℕ) → Bytes w → all_bytes ns ≡ true
    → place_is (seek (packs ns) i (pack w)) ≡ find ns i w
unfolding find packs seek all_bytes place_is
seek-find [] i w f h = refl
seek-find (n ∷ ns) i w f h = go (same w n) refl (seek-find ns (suc i) w f k.1)
  where
    k : (every (λ (b : ℕ). ltb b 256) n ≡ true) × (all_bytes ns ≡ true)
    k = both (every (λ (b : ℕ). ltb b 256) n) (all_bytes ns) h

    go : (a : Bool) → same w n ≡ a → place_is (seek (packs ns) (suc i) (pack w)) ≡ find ns (suc i) w
        → place_is (cond (eqb (pack w) (pack n)) (Some i) (seek (packs ns) (suc i) (pack w))) ≡ find (n ∷ ns) i w
    go true e ih = rw (find-here w n ns i e, eq-eqb (pack w) (pack n) (ap pack (same_eq w n e)))
    go false e ih =
        rw (
          find_past w n ns i e,
          ne_eqb (pack w) (pack n) (λ q. never (sym e ∙ (rw (sym (pack_eq w n f (every-bytes n k.0) q)) (same_refl w)))),
        ) ih

-- ---- a word's number in parts

-- byte by byte, from the last
pub onto_end : (t : ℕ) (s : List ℕ) (i : ℕ) → t ≡ onto t (part s i 0)
unfolding onto
onto_end t s i = refl

pub onto-step : (t : ℕ) (s : List ℕ) (i m : ℕ) → i < length s → onto t (part s i (suc m)) ≡ onto t (part s (suc i) m) * 256 + get_or s i 0
unfolding onto
onto-step t s i m h = rw (drop-cons s i 0 h)

pub onto-below : (t : ℕ) (w : List ℕ) → Bytes w → onto t w < suc t * 256 ^ length w
unfolding onto
onto-below t [] f = omega arith
onto-below t (b ∷ w) f =
    let k = f 0 (omega arith) in
    let l = onto-below t w (bytes_tail b w f) in
    rw (pow-suc, sym (mul_assoc (suc t) (256 ^ length w) 256)) (omega arith)

pub power_some : (n : ℕ) → 0 < 256 ^ n
power_some zero = omega arith
power_some (suc n) = rw pow-suc (omega (arith, power_some n))

-- the first n bytes
least_more : (a p q b : ℕ) → a + p ≡ q → a * 256 + b + p * 256 ≡ q * 256 + b
least_more a p q b e = omega arith

pub onto-least : (n : ℕ) (w : List ℕ) → Bytes w → n ≤ length w → onto 0 w % 256 ^ n + 256 ^ n ≡ pack (take n w)
unfolding onto
onto-least zero w f h = rw (mod-one)
onto-least (suc n) [] f h = absurd (omega arith)
onto-least (suc n) (b ∷ w) f h =
    let y = onto 0 w in
    let k : b < 256 = f 0 (omega arith) in
    rw (
      pow-suc,
      mod-mul (y * 256 + b) {m = 256 ^ n} {c = 256} (power_some n) (omega arith),
      digits_div y {m = 256} k,
      digits_mod y {m = 256} k,
    )
    (least_more (y % 256 ^ n) (256 ^ n) (pack (take n w)) b (onto-least n w (bytes_tail b w f) (omega arith)))

-- those and the others
pub onto-split : (n : ℕ) (w : List ℕ) → n ≤ length w → pack w ≡ pack (drop n w) * 256 ^ n + onto 0 (take n w)
unfolding onto
onto-split zero w h = omega arith
onto-split (suc n) [] h = absurd (omega arith)
onto-split (suc n) (b ∷ w) h =
    rw (pow-suc, onto-split n w (omega arith), sym (mul_assoc (pack (drop n w)) (256 ^ n) 256)) (omega arith)

-- ---- packing, step by step

module _ (v k : ℕ) (z : 0 < k) (h : v < 256 ^ (8 - k)) where
  pub onto_room : v < 72057594037927936
  onto_room = omega (arith, pow-le-pow_right {n = 256} (omega arith) {i = 8 - k} {j = 7} (omega arith))

  pub onto-fits : (b : ℕ) → b < 256 → k ≤ 8 → v * 256 + b < 256 ^ (8 - (k - 1))
  onto-fits b l g = let e : 8 - (k - 1) ≡ suc (8 - k) = omega arith in rw (e, pow-suc) (omega arith)

pub onto-more : (t : ℕ) (s : List ℕ) (at n k : ℕ) → 0 < k → k ≤ n → at + n ≤ length s
    → onto t (part s (at + (k - 1)) (n - (k - 1))) ≡ onto t (part s (at + k) (n - k)) * 256 + get_or s (at + (k - 1)) 0
onto-more t s at n k z h l =
    let e : n - (k - 1) ≡ suc (n - k) = omega arith in
    let f : at + k ≡ suc (at + (k - 1)) = omega arith in
    rw (e, f) (onto-step t s (at + (k - 1)) (n - k) (omega arith))

-- a 1 above n bytes
two_bytes : (n : ℕ) → 2 ^ (n * 8) ≡ 256 ^ n
two_bytes zero = refl
two_bytes (suc n) = let e : suc n * 8 ≡ n * 8 + 8 = omega arith in rw (e, pow-add 2 (n * 8) 8, two_bytes n) (sym (pow-suc 256 n))

module _ (n : ℕ) (h : n ≤ 7) where
  power_room : 256 ^ n ≤ 72057594037927936
  power_room = omega (arith, pow-le-pow_right {n = 256} (omega arith) h)

  pub one_above : 1 * 2 ^ (n * 8) % 18446744073709551616 ≡ 256 ^ n
  one_above = rw (one-mul, two_bytes n) (mod-eq_of_lt (omega (arith, power_room)))

  pub least_fits : (v : ℕ) → v % 256 ^ n + 256 ^ n < 18446744073709551616
  least_fits v = omega (arith, power_room, mod-lt v (power_some n))

-- ---- parts of a text

behind : (m n : ℕ) (w : List ℕ) → drop m (take (m + n) w) ≡ take n (drop m w)
behind zero n w = rw zero-add
behind (suc m) n [] = rw (take-nil (suc m + n)) (sym (take-nil n))
behind (suc m) n (b ∷ w) = let e : suc m + n ≡ suc (m + n) = omega arith in rw e (behind m n w)

module _ (s : List ℕ) (at n : ℕ) (h : at + n ≤ length s) where
  pub part_length : length (part s at n) ≡ n
  part_length = length-take-le n (drop at s) (omega (arith, length-drop at s))

  pub part_bytes : Bytes s → Bytes (part s at n)
  part_bytes f =
      λ j l. let g : j < n = omega (arith, part_length) in rw (get_or-take n (drop at s) j 0 g, get_or-drop) (f (at + j) (omega arith))

-- the bytes that a text has from a place, counted
take_counted : (n : ℕ) (w : List ℕ) → (take (length (take n w)) w ≡ take n w) × (length (take n w) ≤ length w)
take_counted zero w = (refl, omega arith)
take_counted (suc n) [] = (refl, omega arith)
take_counted (suc n) (b ∷ w) = (rw (take_counted n w).0, omega (arith, (take_counted n w).1))

module _ (s : List ℕ) (at n : ℕ) (w : List ℕ) (e : w ≡ part s at n) where
  pub part-counted : part s at (length w) ≡ part s at n
  part-counted = rw e (take_counted n (drop at s)).0

  pub part-inside : (length w ≡ 0 → ⊥) → at + length w ≤ length s
  part-inside h = go (length w) refl (rw e (take_counted n (drop at s)).1)
    where
      go : (m : ℕ) → length w ≡ m → length w ≤ length (drop at s) → at + length w ≤ length s
      go zero q l = absurd (h q)
      go (suc m) q l = omega (arith, length-drop at s)

-- the first n of 8 bytes
pub least-part : (s : List ℕ) (at n v : ℕ) → at + 8 ≤ length s → n ≤ 7 → Bytes s → v ≡ onto 0 (part s at 8)
    → v % 256 ^ n + 256 ^ n ≡ pack (part s at n)
least-part s at n v h l f e =
    rw (e, sym (take-take n 8 (drop at s) (omega arith)))
    (onto-least n (part s at 8) (part_bytes s at 8 h f) (omega (arith, part_length s at 8 h)))

-- 8 bytes and the others
pub split-part : (s : List ℕ) (at n v rest : ℕ) → 8 ≤ n → at + n ≤ length s
    → v ≡ onto 0 (part s at 8) → rest ≡ pack (part s (at + 8) (n - 8))
    → rest * 18446744073709551616 + v ≡ pack (part s at n)
split-part s at n v rest l h e g =
    let k : n ≡ 8 + (n - 8) = omega arith in
    let q : drop 8 (part s at n) ≡ take (n - 8) (drop 8 (drop at s)) =
    ap (λ (x : ℕ). drop 8 (take x (drop at s))) k ∙ behind 8 (n - 8) (drop at s) in
    sym (onto-split 8 (part s at n) (omega (arith, part_length s at n h)) ∙ (rw (q, drop-drop, take-take 8 n (drop at s) l, sym e, sym g)))

-- twice 8 bytes and the others
pub split_twice : (s : List ℕ) (at n v rest last : ℕ) → 16 ≤ n → at + n ≤ length s
    → v ≡ onto 0 (part s at 8) → rest ≡ onto 0 (part s (at + 8) 8) → last ≡ pack (part s (at + 16) (n - 16))
    → (last * 18446744073709551616 + rest) * 18446744073709551616 + v ≡ pack (part s at n)
split_twice s at n v rest last l h e f g =
    let a : at + 8 + 8 ≡ at + 16 = omega arith in
    let b : n - 8 - 8 ≡ n - 16 = omega arith in
    split-part s at n v (last * 18446744073709551616 + rest) (omega arith) h e
    (split-part s (at + 8) (n - 8) rest last (omega arith) (omega arith) f (rw (a, b) g))

-- ---- a place, as the code has it

pub place_some : {r : Option ℕ} {o : maybe.Option ℕ} (i : ℕ) → place_is r ≡ o → r ≡ Some i → o ≡ maybe.some i
unfolding place_is
place_some i h e = sym h ∙ (rw e)

pub place_none : {r : Option ℕ} {o : maybe.Option ℕ} → place_is r ≡ o → r ≡ None → o ≡ maybe.none
unfolding place_is
place_none h e = sym h ∙ (rw e)

pub some_place : {i : ℕ} {o : maybe.Option ℕ} → o ≡ maybe.some i → place_is (Some i) ≡ o
unfolding place_is
some_place e = sym e

pub none_place : {o : maybe.Option ℕ} → o ≡ maybe.none → place_is None ≡ o
unfolding place_is
none_place e = sym e

pub place_found : (r : Option ℕ) {o : maybe.Option ℕ} → place_is r ≡ o → found r ≡ is_some o
unfolding place_is
place_found None h = ap is_some h
place_found (Some i) h = ap is_some h
