-- Laws of lookups among the keywords: only the words of some lengths count, and short ones are found by their numbers.
use Prim.Native.Nat.{ℕ, zero, suc, ◌+◌, ◌*◌, ◌-◌, ◌^◌, ◌≤◌, ◌<◌}
use mathlib.Core.Bool.{Bool, true, false, ◌&&◌, ◌||◌, cond}
use mathlib.Core.List.{List, [], ◌∷◌, reverse}
use mathlib.Core.Logic.{inl, inr}
use mathlib.Core.Path.{◌≡◌, refl, sym, ap, ◌∙◌}
use native.Mathlib.Omega.{arith}
use lib.Dec.{eqb, ltb}
use lib.ListN.{length, get_or, drop, length-drop}
use lib.Seq.{drop-cons, drop-length, get_or-drop}
use native.Mathlib.Nat.{pow-suc, pow-le-pow_right}
use types.Run.{OneOf}
use borrow.Author.Tests.{eqb-true, eq-eqb, ne_eqb, ltb-true}
use Rattle.std.proofs.lemmas.List.{get_or-reverse, length-reverse, get_or_read}
use Rattle.text.specs.Bytes.{same, one_of}
use Rattle.text.specs.Words.{is_some, words, find, shorter}
use Rattle.text.proofs.WordLaws.{same_eq, same_refl, find-here, find_past, find-long}
use Rattle.token.specs.Names.{keywords, is_keyword}
use Rattle.keywords.specs.Means.{pack, packs, packed_keywords, long_keywords}
use Rattle.law_lengths.specs.Means.{sized}
use Rattle.law_lengths.proofs.SizedLaws.{find-sized}
use Rattle.token.proofs.WholeLaws.{never, either, both, every, every_in}

-- ---- words of some lengths

-- one word
pub find-last : (w n : List ℕ) (i : ℕ) → same w n ≡ is_some (find (n ∷ []) i w)
unfolding find
find-last w n i = go (same w n) refl
  where
    go : (a : Bool) → same w n ≡ a → a ≡ is_some (find (n ∷ []) i w)
    go true e = rw (find-here w n [] i e)
    go false e = rw (find_past w n [] i e)

-- the longest have 8 bytes: one computed test
pub keyword_long : (w : List ℕ) → 8 < length w → false ≡ is_keyword w
unfolding is_keyword shorter
keyword_long w h = sym (ap is_some (find-long (words keywords) 0 9 w refl h))

-- a list will do that has the keywords of some lengths
keyword_in : (p : ℕ → Bool) (w : List ℕ) (ms : List (List ℕ)) → p (length w) ≡ true
    → sized p ms ≡ sized p (words keywords)
    → is_some (find ms 0 w) ≡ is_keyword w
unfolding is_keyword
keyword_in p w ms e h = sym (find-sized p ms 0 0 w e) ∙ (rw h) ∙ find-sized p (words keywords) 0 0 w e

-- those of 8
pub keyword_eight : (w : List ℕ) → length w ≡ 8 → is_some (find (words long_keywords) 0 w) ≡ is_keyword w
unfolding sized
keyword_eight w e = keyword_in (λ (n : ℕ). eqb n 8) w (words long_keywords) (rw e) refl

-- ---- words as numbers

abbrev pub Bytes : List ℕ → Type 0
Bytes w = (j : ℕ) → j < length w → get_or w j 0 < 256

bytes_tail : (b : ℕ) (w : List ℕ) → Bytes (b ∷ w) → Bytes w
bytes_tail b w h = λ j l. h (suc j) (omega arith)

pack_some : (w : List ℕ) → 1 ≤ pack w
unfolding pack
pack_some [] = omega arith
pack_some (b ∷ w) = omega (arith, pack_some w)

pack_eq : (w u : List ℕ) → Bytes w → Bytes u → pack w ≡ pack u → w ≡ u
unfolding pack
pack_eq [] [] f g e = refl
pack_eq [] (c ∷ u) f g e = absurd (omega (arith, pack_some u))
pack_eq (b ∷ w) [] f g e = absurd (omega (arith, pack_some w))
pack_eq (b ∷ w) (c ∷ u) f g e =
    let k = f 0 (omega arith) in
    let l = g 0 (omega arith) in
    let i : b ≡ c = omega arith in
    rw (i, pack_eq w u (bytes_tail b w f) (bytes_tail c u g) (omega arith))

-- how large it is
pack-below : (w : List ℕ) → Bytes w → pack w < 256 ^ suc (length w)
unfolding pack
pack-below [] f = omega arith
pack-below (b ∷ w) f =
    let k = f 0 (omega arith) in
    let l = pack-below w (bytes_tail b w f) in
    rw pow-suc (omega arith)

-- behind the first byte of a word
module _ (w : List ℕ) (f : Bytes w) where
  bytes_drop : (i : ℕ) → Bytes (drop i w)
  bytes_drop i = λ j l. rw get_or-drop (f (i + j) (omega (arith, length-drop i w)))

  pub pack_small : (i : ℕ) → 0 < i → length w ≤ 7 → pack (drop i w) < 72057594037927936
  pack_small i z h =
      let e : suc (length (drop i w)) ≤ 7 = omega (arith, length-drop i w) in
      omega (arith, pack-below (drop i w) (bytes_drop i), pow-le-pow_right {n = 256} (omega arith) e)

pub pack-at : (w : List ℕ) (i : ℕ) → i < length w → pack (drop i w) ≡ pack (drop (suc i) w) * 256 + get_or w i 0
unfolding pack
pack-at w i h = rw (drop-cons w i 0 h)

pub pack_end : (w : List ℕ) → 1 ≡ pack (drop (length w) w)
unfolding pack
pack_end w = rw (drop-length)

-- the n-th byte from the end
pub from-end : (w : List ℕ) (n b : ℕ) → (n < length (reverse w)) × (b ≡ get_or (reverse w) n b)
    → (n < length w) × (b ≡ get_or w (length w - suc n) 0)
from-end w n b h =
    let l : n < length w = omega (arith, h.0, length-reverse w) in
    let i : length w - 1 - n ≡ length w - suc n = omega arith in
    let e : b ≡ get_or w (length w - suc n) b = h.1 ∙ get_or-reverse w n b l ∙ ap (λ (k : ℕ). get_or w k b) i in
    (l, get_or_read w _ _ (omega arith) e 0)

-- whether the words of a list have bytes
unfoldable pub all_bytes : List (List ℕ) → Bool
all_bytes [] = true
all_bytes (w ∷ ws) = every (λ (b : ℕ). ltb b 256) w && all_bytes ws

every-bytes : (w : List ℕ) → every (λ (b : ℕ). ltb b 256) w ≡ true → Bytes w
unfolding every
every-bytes [] h = λ j l. absurd (omega arith)
every-bytes (b ∷ w) h = go (both (ltb b 256) (every (λ (b : ℕ). ltb b 256) w) h).0 (every-bytes w (both (ltb b 256) _ h).1)
  where
    go : ltb b 256 ≡ true → Bytes w → Bytes (b ∷ w)
    go e f zero l = ltb-true b 256 e
    go e f (suc j) l = f j (omega arith)

find-packs : (ns : List (List ℕ)) (i : ℕ) (w : List ℕ) → Bytes w → all_bytes ns ≡ true → one_of (packs ns) (pack w) ≡ is_some (find ns i w)
unfolding find packs one_of all_bytes
find-packs [] i w f h = refl
find-packs (n ∷ ns) i w f h = go (same w n) refl (find-packs ns (suc i) w f k.1)
  where
    k : (every (λ (b : ℕ). ltb b 256) n ≡ true) × (all_bytes ns ≡ true)
    k = both (every (λ (b : ℕ). ltb b 256) n) (all_bytes ns) h

    go : (a : Bool) → same w n ≡ a → one_of (packs ns) (pack w) ≡ is_some (find ns (suc i) w)
        → (eqb (pack w) (pack n) || one_of (packs ns) (pack w)) ≡ is_some (find (n ∷ ns) i w)
    go true e ih = rw (find-here w n ns i e, eq-eqb (pack w) (pack n) (ap pack (same_eq w n e)))
    go false e ih =
        rw (
          find_past w n ns i e,
          ne_eqb (pack w) (pack n) (λ q. never (sym e ∙ (rw (sym (pack_eq w n f (every-bytes n k.0) q)) (same_refl w)))),
        ) ih

-- ---- a number among the keys of a `match`

keys_hit : (ks : List ℕ) (v : ℕ) → OneOf ks v → one_of ks v ≡ true
unfolding one_of
keys_hit [] v h = absurd h
keys_hit (k ∷ []) v h = rw (eq-eqb v k h)
keys_hit (k ∷ k' ∷ ks) v (inl e) = rw (eq-eqb v k e)
keys_hit (k ∷ k' ∷ ks) v (inr r) = go (eqb v k) (keys_hit (k' ∷ ks) v r)
  where
    go : (x : Bool) → one_of (k' ∷ ks) v ≡ true → (x || one_of (k' ∷ ks) v) ≡ true
    go true e = refl
    go false e = e

keys_has : (ks : List ℕ) (v : ℕ) → one_of ks v ≡ true → OneOf ks v
unfolding one_of
keys_has [] v h = never h
keys_has (k ∷ []) v h = either (eqb v k) false (λ e. eqb-true v k e) (λ e. absurd (never e)) h
keys_has (k ∷ k' ∷ ks) v h =
    either (eqb v k) (one_of (k' ∷ ks) v) (λ e. inl (eqb-true v k e)) (λ e. inr (keys_has (k' ∷ ks) v e)) h

-- a `match` has its keys in order
unfoldable pub insert : ℕ → List ℕ → List ℕ
insert k [] = k ∷ []
insert k (m ∷ ms) = cond (ltb k m) (k ∷ m ∷ ms) (m ∷ insert k ms)

unfoldable pub sorted : List ℕ → List ℕ
sorted [] = []
sorted (m ∷ ms) = insert m (sorted ms)

module _ (ks ms : List ℕ) (v : ℕ) where
  pub keys_among : every (one_of ms) ks ≡ true → OneOf ks v → one_of ms v ≡ true
  keys_among h o = every_in (one_of ms) ks v h (keys_hit ks v o)

  pub keys_apart : every (one_of ks) ms ≡ true → (OneOf ks v → ⊥) → one_of ms v ≡ false
  keys_apart h n = go (one_of ms v) refl
    where
      go : (x : Bool) → one_of ms v ≡ x → x ≡ false
      go true q = absurd (n (keys_has ks v (every_in (one_of ks) ms v h q)))
      go false q = refl

pub keyword_packed : (p : ℕ → Bool) (w : List ℕ) → p (length w) ≡ true
    → all_bytes (sized p (words keywords)) ≡ true
    → Bytes w → (v : ℕ) → v ≡ pack w → one_of (packed_keywords p) v ≡ is_keyword w
unfolding is_keyword packed_keywords
keyword_packed p w h a f v e = rw e (find-packs (sized p (words keywords)) 0 w f a ∙ find-sized p (words keywords) 0 0 w h)
