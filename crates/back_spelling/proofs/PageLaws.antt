-- Bytes and pieces put one after the other.
use Prim.Native.Nat.{ℕ, zero, suc, ◌+◌, ◌-◌, ◌*◌, ◌/◌, ◌%◌, ◌^◌, ◌≤◌, ◌<◌}
use mathlib.Core.Bool.{Bool, true, false, cond, ◌&&◌, ◌||◌, not}
use mathlib.Core.List.{List, [], ◌∷◌, ◌++◌}
use mathlib.Core.Path.{◌≡◌, refl, sym, ap, ◌∙◌}
use base.Fml.{GName}
use native.Mathlib.Omega.{arith}
use native.Mathlib.Nat.{pow-suc}
use native.Mathlib.Numerals.{add-one}
use lib.Dec.{leb, eqb}
use lib.ListN.{length, length-append, length-set, drop, get_or, drop_of_length-le}
use lib.Seq.{sets, drop-cons, length-sets}
use borrow.Author.Tests.{lt-ltb, le-ltb, le-leb, lt-leb, leb-true, leb-false, eqb-true, eqb-false, eq-eqb, ne_eqb}
use denote.Bor.{Bor}
use mathlib.Core.Option.{some}
use Rattle.std.specs.Prelude.{map}
use Rattle.std.specs.List.{list_any}
use Rattle.text.specs.Words.{is_some, find}
use Rattle.text.proofs.WriteLaws.{sets_append}
use Rattle.text.specs.Bytes as bytes
use Rattle.text.specs.Bytes.{at, is_letter, is_digit, is_name}
use Rattle.digits.specs.Numeral.{all, fraction}
use Rattle.digits.specs.Fewest.{form, whole_digits, last_digits}
use Rattle.pieces.specs.Pieces.{Piece, spelt, fits, word_like, name_like}
use Rattle.token.specs.Names.{is_keyword}
use Rattle.back_spelling.specs.Means.{Lent, Page, spoiled, full, page, lent, spoil, most, put_on, put, run, on_page, page_of}
use Rattle.back_spelling.specs.declared.PieceWriter.{PieceWriter}

-- ---- the buffer stays the same

pub lent_of_page : (g : GName) (out : List ℕ) (at : ℕ) (fits : Bool) → lent (on_page g out at fits) ≡ (g, length out)
lent_of_page g out at fits = go fits (leb at most)
  where
    go : (x y : Bool) → lent (cond x (cond y (page g out at) (full (g, length out))) (spoiled (g, length out))) ≡ (g, length out)
    go false y = refl
    go true false = refl
    go true true = refl

pub lent_of_lem : (c : PieceWriter) → lent (page_of c) ≡ (c.out.ghost_name, length c.out.now)
unfolding page_of
lent_of_lem c = lent_of_page c.out.ghost_name c.out.now c.pen.at c.pen.fits

lent-put_on : (bs : List ℕ) (p : Page) → lent (put_on bs p) ≡ lent p
unfolding put_on
lent-put_on bs (spoiled n) = refl
lent-put_on bs (full n) = refl
lent-put_on bs (page g out at) = go (leb (at + length bs) most)
  where
    go : (x : Bool) → lent (cond x (page g (sets out at bs) (at + length bs)) (full (g, length out))) ≡ (g, length out)
    go true = ap (λ (n : ℕ). (g, n)) (length-sets out at bs)
    go false = refl

lent-put : (x : Piece) (p : Page) → lent (put x p) ≡ lent p
unfolding put
lent-put x p = go (fits form x)
  where
    go : (b : Bool) → lent (cond b (put_on (spelt form x ++ 32 ∷ []) p) (spoil p)) ≡ lent p
    go true = lent-put_on (spelt form x ++ 32 ∷ []) p
    go false = refl

pub lent-run : (ps : List Piece) (p : Page) → lent (run ps p) ≡ lent p
unfolding run
lent-run [] p = refl
lent-run (x ∷ xs) p = lent-run xs (put x p) ∙ lent-put x p

-- a buffer that is as long, reached by the same reference
pub same_buffer : (c d : PieceWriter) → lent (page_of d) ≡ lent (page_of c) → (d.out.ghost_name ≡ c.out.ghost_name) × (length d.out.now ≡ length c.out.now)
same_buffer c d e =
    let h = sym (lent_of_lem d) ∙ e ∙ lent_of_lem c in
    (ap (λ (b : Lent). b.0) h, ap (λ (b : Lent). b.1) h)

-- ---- bytes behind bytes

-- there is room for the bytes bs
pub with_room : (g : GName) (at : ℕ) (b : Bool) (out bs : List ℕ) → leb (at + length bs) most ≡ true
    → on_page g (sets out at bs) (at + length bs) b ≡ put_on bs (on_page g out at b)
unfolding put_on
with_room g at false out bs h = ap (λ (n : ℕ). spoiled (g, n)) (length-sets out at bs)
with_room g at true out bs h =
    let k : leb at most ≡ true = le-leb at most (omega (arith, leb-true (at + length bs) most h)) in
    rw (h, k, h)

-- there is none
pub no_room : (g : GName) (at : ℕ) (b : Bool) (out bs : List ℕ) → leb (at + length bs) most ≡ false
    → on_page g out (suc most) b ≡ put_on bs (on_page g out at b)
unfolding put_on
no_room g at false out bs h = refl
no_room g at true out bs h = go (leb at most)
  where
    go : (x : Bool) → full (g, length out) ≡ put_on bs (cond x (page g out at) (full (g, length out)))
    go true = rw h
    go false = refl

-- bytes behind bytes
pub put_both : (cs bs : List ℕ) (p : Page) → put_on bs (put_on cs p) ≡ put_on (cs ++ bs) p
unfolding put_on
put_both cs bs (spoiled n) = refl
put_both cs bs (full n) = refl
put_both cs bs (page g out at) = go (leb (at + length cs) most) refl
  where
    go : (x : Bool) → leb (at + length cs) most ≡ x
        → put_on bs (cond x (page g (sets out at cs) (at + length cs)) (full (g, length out))) ≡ put_on (cs ++ bs) (page g out at)
    go true e =
        let n : at + length cs + length bs ≡ at + length (cs ++ bs) = omega (arith, length-append cs bs) in
        rw (n, sets_append out at cs bs, length-sets out at cs)
    go false e =
        let h : leb (at + length (cs ++ bs)) most ≡ false = lt-leb (at + length (cs ++ bs)) most
        (omega (arith, leb-false (at + length cs) most e, length-append cs bs)) in
        rw h

-- the bytes of a piece and a blank were put: of a piece that fits, and of one of which that is asked
pub piece_put : (x : Piece) (p : Page) {q r : Page} (bs : List ℕ) → q ≡ put_on bs p
    → r ≡ put_on (32 ∷ []) q → spelt form x ≡ bs → fits form x ≡ true
    → r ≡ put x p
unfolding put
piece_put x p bs e f s h = f ∙ ap (put_on (32 ∷ [])) e ∙ put_both bs (32 ∷ []) p ∙ rw (h, s)

pub piece_judged : (x : Piece) (p : Page) {q r : Page} (bs : List ℕ) {b : Bool} → q ≡ put_on bs p → r ≡ put_on (32 ∷ []) q → spelt form x ≡ bs
    → b ≡ fits form x → cond b r (spoil r) ≡ put x p
unfolding put
piece_judged x p bs {b} e f s h =
    ap (λ (y : Page). cond b y (spoil y)) (f ∙ ap (put_on (32 ∷ [])) e ∙ put_both bs (32 ∷ []) p) ∙ rw (h, s, lent-put_on (bs ++ 32 ∷ []) p)

-- what stands between quotes
pub quoted_put : (bs : List ℕ) (p : Page) {q r o : Page} → q ≡ put_on (34 ∷ []) p → r ≡ put_on bs q → o ≡ put_on (34 ∷ []) r
    → o ≡ put_on ((34 ∷ bs) ++ 34 ∷ []) p
quoted_put bs p e f g =
    g ∙ ap (put_on (34 ∷ [])) (f ∙ ap (put_on bs) e ∙ put_both (34 ∷ []) bs p) ∙ put_both (34 ∷ bs) (34 ∷ []) p

-- ---- bytes one by one

pub room_is : (at n : ℕ) → n ≤ most → leb at (most - n) ≡ leb (at + n) most
room_is at n h = go (leb (at + n) most) refl
  where
    go : (x : Bool) → leb (at + n) most ≡ x → leb at (most - n) ≡ x
    go true e = le-leb at (most - n) (omega (arith, leb-true (at + n) most e))
    go false e = lt-leb at (most - n) (omega (arith, leb-false (at + n) most e))

-- a copy of `part` that has come to its byte i
module _ (start : List ℕ) (at : ℕ) (part : List ℕ) where
  abbrev pub Copied : List ℕ → ℕ → Type 0
  Copied out i = (length out ≡ length start) × (sets out (at + i) (drop i part) ≡ sets start at part)

  pub copy_first : Copied start 0
  copy_first = (refl, ap (λ (k : ℕ). sets start k part) (omega arith))

  pub copy_next : (out after : List ℕ) (i : ℕ) → i < length part → after ≡ sets out (at + i) (get_or part i 0 ∷ []) → Copied out i
      → Copied after (i + 1)
  copy_next out after i h e c =
      let k : at + (i + 1) ≡ suc (at + i) = omega arith in (
        ap length e ∙ length-set out (at + i) (get_or part i 0) ∙ c.0,
        rw (e, k, add-one) (rw (drop-cons part i 0 h) at c.1),
      )

  pub copy_last : (out : List ℕ) (i : ℕ) → length part ≤ i → Copied out i → out ≡ sets start at part
  copy_last out i h c = rw (drop_of_length-le part {i = i} h) at c.1

-- ---- classes of bytes

suc-eqb : (a b : ℕ) → eqb (suc a) (suc b) ≡ eqb a b
suc-eqb a b = go (eqb a b) refl
  where
    go : (x : Bool) → eqb a b ≡ x → eqb (suc a) (suc b) ≡ x
    go true e = eq-eqb (suc a) (suc b) (ap suc (eqb-true a b e))
    go false e = ne_eqb (suc a) (suc b) (λ h. eqb-false a b e (omega arith))

run-all : (p : ℕ → Bool) (bs : List ℕ) → eqb (bytes.run p bs) (length bs) ≡ all p bs
unfolding bytes.run all
run-all p [] = refl
run-all p (b ∷ bs) = go (p b) (run-all p bs)
  where
    go : (x : Bool) → eqb (bytes.run p bs) (length bs) ≡ all p bs
        → eqb (elim x [ true ↦ suc (bytes.run p bs) | false ↦ 0 ]) (suc (length bs)) ≡ (x && all p bs)
    go true h = suc-eqb (bytes.run p bs) (length bs) ∙ h
    go false h = ne_eqb 0 (suc (length bs)) (λ e. omega arith)

pub all_is : (p : ℕ → Bool) (bs : List ℕ) (k : ℕ) → k ≡ 0 + bytes.run p (drop 0 bs) → eqb k (length bs) ≡ all p bs
all_is p bs k e = let h : k ≡ bytes.run p bs = omega arith in rw h (run-all p bs)

pub word_is : (w : List ℕ) → word_like w ≡ (is_letter (at w 0) && all is_name w)
unfolding word_like all
word_is [] = refl
word_is (b ∷ bs) = go (is_letter b)
  where
    go : (x : Bool) → (x && all is_name bs) ≡ (x && ((x || is_digit b) && all is_name bs))
    go true = refl
    go false = refl

pub was_false : (x : Bool) → not x ≡ true → x ≡ false
was_false true h = sym h
was_false false h = refl

pub was_true : (x : Bool) → not x ≡ false → x ≡ true
was_true true h = refl
was_true false h = sym h

-- a name that is no keyword, asked part by part: its first byte b, the others, the keywords
module _ (w : List ℕ) {b : ℕ} {x : Bool} (e : x ≡ is_letter b) (f : b ≡ at w 0) where
  first-is : is_letter (at w 0) ≡ x
  first-is = sym (rw f at e)

  pub no_letter : x ≡ false → false ≡ name_like w
  no_letter h = rw (word_is w, first-is, h)

  pub no_name : {y : Bool} → x ≡ true → y ≡ all is_name w → y ≡ false → false ≡ name_like w
  no_name h g n = rw (word_is w, first-is, h, ← g, n)

  pub a_name_lem : {y k : Bool} → x ≡ true → y ≡ all is_name w → y ≡ true → k ≡ is_keyword w → not k ≡ name_like w
  a_name_lem h g n q = rw (word_is w, first-is, h, ← g, n, q)

-- a word that is one of some names is found among them
pub listed : (names : List (Bor (List ℕ))) (i : ℕ) (w : List ℕ)
    → list_any (λ n. bytes.same w n.now) names ≡ is_some (find (map (λ n. n.now) names) i w)
unfolding find
listed [] i w = refl
listed (n ∷ ns) i w = go (bytes.same w n.now) (listed ns (suc i) w)
  where
    go : (b : Bool) → list_any (λ n. bytes.same w n.now) ns ≡ is_some (find (map (λ n. n.now) ns) (suc i) w)
        → (b || list_any (λ n. bytes.same w n.now) ns) ≡ is_some {A = ℕ} (elim b [ true ↦ some i | false ↦ find (map (λ n. n.now) ns) (suc i) w ])
    go true h = refl
    go false h = h

pub no_curve : (n k : Bool) → k ≡ false → n ≡ (n && not k)
no_curve true k h = rw h
no_curve false k h = refl

pub a_curve : (n k : Bool) → k ≡ true → false ≡ (n && not k)
a_curve true k h = rw h
a_curve false k h = refl

-- ---- digits

-- one digit, and one behind others
pub one-digit : (n k : ℕ) (p : Page) {q : Page} → n < 10 → q ≡ put_on ((48 + n) ∷ []) p → q ≡ put_on (whole_digits k n) p
unfolding whole_digits
one-digit n zero p h e = e
one-digit n (suc k) p h e = rw (lt-ltb n 10 h) e

pub last-digit : (n k : ℕ) (p : Page) {q r : Page} → 10 ≤ n → n < 10 ^ suc k
    → ((j : ℕ) → n / 10 < 10 ^ suc j → q ≡ put_on (whole_digits j (n / 10)) p)
    → r ≡ put_on ((48 + n % 10) ∷ []) q → r ≡ put_on (whole_digits k n) p
unfolding whole_digits
last-digit n zero p h l f e = absurd (omega arith)
last-digit n (suc k) p h l f e =
    let d : n / 10 < 10 ^ suc k = tenth n (10 ^ suc k) (rw pow-suc at l) in
    rw (le-ltb n 10 h) (e ∙ ap (put_on ((48 + n % 10) ∷ [])) (f k d) ∙ put_both (whole_digits k (n / 10)) ((48 + n % 10) ∷ []) p)
  where
    tenth : (n m : ℕ) → n < m * 10 → n / 10 < m
    tenth n m h = omega arith

-- no bytes
pub put_none : (c : PieceWriter) → page_of c ≡ put_on [] (page_of c)
unfolding page_of put_on
put_none c = go c.out.ghost_name c.out.now c.pen.fits (leb c.pen.at most) refl
  where
    go : (g : GName) (out : List ℕ) (x y : Bool) → leb c.pen.at most ≡ y
        → cond x (cond y (page g out c.pen.at) (full (g, length out))) (spoiled (g, length out))
        ≡ put_on [] (cond x (cond y (page g out c.pen.at) (full (g, length out))) (spoiled (g, length out)))
    go g out false y e = refl
    go g out true false e = refl
    go g out true true e = let h : c.pen.at + 0 ≡ c.pen.at = omega arith in rw (h, e)

pub no_digits : (n k : ℕ) (c : PieceWriter) → k ≡ 0 → page_of c ≡ put_on (last_digits k n) (page_of c)
unfolding last_digits
no_digits n k c h = rw h (put_none c)

pub more_digits : (n k j : ℕ) (p : Page) {q r : Page} → k ≡ suc j → q ≡ put_on (last_digits j (n / 10)) p → r ≡ put_on ((48 + n % 10) ∷ []) q
    → r ≡ put_on (last_digits k n) p
unfolding last_digits
more_digits n k j p h e f =
    rw h (f ∙ ap (put_on ((48 + n % 10) ∷ [])) e ∙ put_both (last_digits j (n / 10)) ((48 + n % 10) ∷ []) p)

pub no_fraction : (n k : ℕ) (c : PieceWriter) → k ≡ 0 → page_of c ≡ put_on (fraction (last_digits k n)) (page_of c)
unfolding last_digits fraction
no_fraction n k c h = rw h (put_none c)

fraction_end : (ds : List ℕ) (d : ℕ) → fraction (ds ++ d ∷ []) ≡ 46 ∷ (ds ++ d ∷ [])
unfolding fraction
fraction_end [] d = refl
fraction_end (e ∷ ds) d = refl

pub a_fraction : (n k : ℕ) (p : Page) {q r : Page} → (k ≡ 0 → ⊥) → q ≡ put_on (46 ∷ []) p → r ≡ put_on (last_digits k n) q
    → r ≡ put_on (fraction (last_digits k n)) p
unfolding last_digits
a_fraction n zero p h e f = absurd (h refl)
a_fraction n (suc k) p h e f =
    f ∙ ap (put_on (last_digits k (n / 10) ++ (48 + n % 10) ∷ [])) e ∙ put_both (46 ∷ []) (last_digits k (n / 10) ++ (48 + n % 10) ∷ []) p
    ∙ ap (λ (bs : List ℕ). put_on bs p) (sym (fraction_end (last_digits k (n / 10)) (48 + n % 10)))
