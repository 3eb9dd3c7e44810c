-- What holds of each token that a text begins with: its bytes stand in the text, none of them is foreign, and its kind has its size.
use Prim.Native.Nat.{ℕ, zero, suc, ◌+◌, ◌-◌, ◌^◌, ◌≤◌, ◌<◌}
use mathlib.Core.List.{List, [], ◌∷◌}
use mathlib.Core.Bool.{Bool, true, false, ◌&&◌, ◌||◌, not, cond}
use mathlib.Core.Path.{◌≡◌, refl, sym, ◌∙◌, subst}
use native.Mathlib.Omega.{arith}
use lib.Dec.{eqb, ltb}
use lib.ListN.{length, get_or, take, drop}
use lib.Seq.{length-take-le}
use borrow.Author.Tests.{le-leb, eqb-true, ne_eqb, eqb-false, ltb-true, ltb-false, not-true}
use Rattle.text.specs.Bytes.{bytes, run, part, one_of, within, is_upper, is_letter, is_digit}
use Rattle.text.specs.Bytes.{is_name, is_inside, is_blank, is_foreign, decimal, among}
use Rattle.text.proofs.ByteLaws.{run_at, run_le, run_in, within_is}
use Rattle.token.specs.Token.{Kind, name, number, quoted, mark, Lexeme, bad, piece, name_at, point_at}
use Rattle.token.specs.Token.{power_from, power_size, past_power}
use Rattle.token.specs.Token.{past_fraction, suffix_at, past_suffix, clings, places_of, number_at, quoted_at, lexeme}
use Rattle.limbs.proofs.NumberLaws.{run_in_at, digits_small, ten_fits, whole_small}
use Rattle.token.proofs.LexLaws.{Parts, inside, run_fits, name_is, quoted_is, point_inside, suffix_inside}
use Rattle.token.proofs.LexLaws.{fraction-run, fraction_is, number-clings, number-long, number-written, lex_is}
use Rattle.token.proofs.LexLaws.{PowerIs, power_is, from_low, past_none, past_some}

-- ---- classes of bytes with no foreign byte

pub never : (false ≡ true) → ⊥
never q = let z : ◌≡◌ {A = ℕ} 0 1 = cc in omega arith

pub either : (a b : Bool) {P : Type 0} → (a ≡ true → P) → (b ≡ true → P) → (a || b) ≡ true → P
either true b f g h = f refl
either false b f g h = g h

pub both : (a b : Bool) → (a && b) ≡ true → (a ≡ true) × (b ≡ true)
both true b h = (refl, h)
both false b h = absurd (never h)

pub neither : (a b : Bool) → (a || b) ≡ false → (a ≡ false) × (b ≡ false)
neither true b h = absurd (never (sym h))
neither false b h = (refl, h)

range_clean : (lo hi b : ℕ) → 32 ≤ lo → hi ≤ 126 → within lo hi b ≡ true → is_foreign b ≡ false
range_clean lo hi b h g e =
    let r = within_is lo hi b e in
    rw (le-leb 32 b (omega arith), le-leb b 126 (omega arith))

is_clean : (b c : ℕ) → is_foreign c ≡ false → eqb b c ≡ true → is_foreign b ≡ false
is_clean b c h e = subst (λ (x : ℕ). is_foreign x ≡ false) (sym (eqb-true b c e)) h

-- whether each of some bytes passes a test
unfoldable pub every : (ℕ → Bool) → List ℕ → Bool
every p [] = true
every p (c ∷ cs) = p c && every p cs

pub every_in : (p : ℕ → Bool) (cs : List ℕ) (b : ℕ) → every p cs ≡ true → one_of cs b ≡ true → p b ≡ true
unfolding one_of every
every_in p [] b h e = absurd (never e)
every_in p (c ∷ cs) b h e =
    let k = both (p c) (every p cs) h in
    either (eqb b c) (one_of cs b) (λ q. subst (λ (x : ℕ). p x ≡ true) (sym (eqb-true b c q)) k.0) (λ q. every_in p cs b k.1 q) e

set_clean : (cs : List ℕ) (b : ℕ) → every (λ (c : ℕ). not (is_foreign c)) cs ≡ true → one_of cs b ≡ true → is_foreign b ≡ false
set_clean cs b h e = not-true (is_foreign b) (every_in (λ (c : ℕ). not (is_foreign c)) cs b h e)

pub blank_clean : (b : ℕ) → is_blank b ≡ true → is_foreign b ≡ false
unfolding every one_of
blank_clean b h = set_clean (32 ∷ 9 ∷ 10 ∷ 13 ∷ []) b refl h

digit_clean : (b : ℕ) → is_digit b ≡ true → is_foreign b ≡ false
digit_clean b h = range_clean 48 57 b (omega arith) (omega arith) h

name_clean : (b : ℕ) → is_name b ≡ true → is_foreign b ≡ false
unfolding one_of
name_clean b h =
    either (is_letter b) (is_digit b)
    (λ l. either (within 97 122 b || is_upper b) (eqb b 95)
    (λ k. either (within 97 122 b) (is_upper b) (λ e. range_clean 97 122 b (omega arith) (omega arith) e)
    (λ e. range_clean 65 90 b (omega arith) (omega arith) e) k)
    (λ e. is_clean b 95 refl e) l)
    (λ d. digit_clean b d)
    h

-- a byte of a name or a number
abbrev pub is_word_byte : ℕ → Bool
is_word_byte b = is_name b || among ".+-" b

word_clean : (b : ℕ) → is_word_byte b ≡ true → is_foreign b ≡ false
unfolding every one_of
word_clean b h = either (is_name b) (among ".+-" b) (λ e. name_clean b e) (λ e. set_clean (bytes ".+-") b refl e) h

name_word : (b : ℕ) → is_name b ≡ true → is_word_byte b ≡ true
name_word b h = rw h

digit-word : (b : ℕ) → is_digit b ≡ true → is_word_byte b ≡ true
digit-word b h = name_word b (go (is_letter b))
  where
    go : (x : Bool) → (x || is_digit b) ≡ true
    go true = refl
    go false = h

inside_clean : (b : ℕ) → is_inside b ≡ true → is_foreign b ≡ false
inside_clean b h = range_clean 32 126 b (omega arith) (omega arith) (both (within 32 126 b) (not (among "\"\\" b)) h).0

-- ---- the tokens

-- what holds below w, at w, and at r numbers behind w
upto : (P : ℕ → Type 0) (w r : ℕ) → ((j : ℕ) → j < w → P j) → P w → ((i : ℕ) → i < r → P (suc w + i)) → (j : ℕ) → j < suc w + r → P j
upto P w r low here high j h = go (ltb j w) refl (eqb j w) refl
  where
    go : (a : Bool) → ltb j w ≡ a → (b : Bool) → eqb j w ≡ b → P j
    go true e b f = low j (ltb-true j w e)
    go false e true f = subst P (sym (eqb-true j w f)) here
    go false e false f =
        let l : w < j = omega (arith, ltb-false j w e, eqb-false j w f) in
        let q : suc w + (j - suc w) ≡ j = omega arith in
        subst P q (high (j - suc w) (omega arith))

-- what a kind of n bytes is: a mark is not the text's end
abbrev pub Fits : Kind → ℕ → Type 0
Fits (name w) n = length w ≡ n
Fits (number w) n = Unit {0}
Fits (quoted m) n = n ≡ m + 2
Fits (mark b) n = eqb b 0 ≡ false

-- how a kind of n bytes is written, t being the text from its start on
abbrev pub Spelled : List ℕ → Kind → ℕ → Type 0
Spelled t (name w) n = (j : ℕ) → j < n → is_word_byte (get_or t j 0) ≡ true
Spelled t (number w) n = (j : ℕ) → j < n → is_word_byte (get_or t j 0) ≡ true
Spelled t (quoted m) n =
    (get_or t 0 0 ≡ 34) × ((i : ℕ) → i < m → is_inside (get_or t (suc i) 0) ≡ true) × (get_or t (suc m) 0 ≡ 34)
Spelled t (mark b) n = (get_or t 0 0 ≡ b) × (n ≡ 1) × (among ":;,=>.+-%([{)]}" b ≡ true)

pub record Whole (t : List ℕ) (k : Kind) (n : ℕ) : Type 0 where
  pub some : 0 < n
  pub high : n ≤ length t
  pub clean : (j : ℕ) → j < n → is_foreign (get_or t j 0) ≡ false
  pub fits : Fits k n
  pub spelled : Spelled t k n

abbrev WholeOf : List ℕ → Lexeme → Type 0
WholeOf t (bad r) = Unit {0}
WholeOf t (piece k n) = Whole t k n

-- the byte at j is not foreign
abbrev Clean : List ℕ → ℕ → Type 0
Clean t j = is_foreign (get_or t j 0) ≡ false

name_whole : (t : List ℕ) → is_letter (get_or t 0 0) ≡ true → 0 < length t → WholeOf t (name_at t)
name_whole t h z = go (eqb (get_or t (run is_name t) 0) 34) refl
  where
    go : (x : Bool) → eqb (get_or t (run is_name t) 0) 34 ≡ x → WholeOf t (name_at t)
    go true e = rw (name_is t (run is_name t) true refl e) tt
    go false e =
        rw (name_is t (run is_name t) false refl e)
        (record {
          some = omega (arith, run_at is_name t 0 z (rw h));
          high = run_le is_name t;
          clean = λ j q. name_clean (get_or t j 0) (run_in is_name t j q);
          fits = length-take-le (run is_name t) t (run_le is_name t);
          spelled = λ j q. name_word (get_or t j 0) (run_in is_name t j q);
        })

quoted_whole : (t : List ℕ) → eqb (get_or t 0 0) 34 ≡ true → WholeOf t (quoted_at t)
quoted_whole t h =
    go (run is_inside (drop 1 t)) refl (eqb (get_or t (suc (run is_inside (drop 1 t))) 0) 34) refl
    (is_name (get_or t (run is_inside (drop 1 t) + 2) 0)) refl
  where
    go : (n : ℕ) → n ≡ run is_inside (drop 1 t) → (x : Bool) → eqb (get_or t (suc n) 0) 34 ≡ x
        → (y : Bool) → is_name (get_or t (n + 2) 0) ≡ y → WholeOf t (quoted_at t)
    go n k false e y f = rw (quoted_is t n false y k e f) tt
    go n k true e true f = rw (quoted_is t n true true k e f) tt
    go n k true e false f =
        let run_clean : (i : ℕ) → i < n → Clean t (1 + i) = λ i q. inside_clean (get_or t (1 + i) 0) (run_in_at is_inside t 1 i (omega arith))
        in
        let front : (j : ℕ) → j < 1 + n → Clean t j = upto (Clean t) 0 n (λ j q. absurd (omega arith)) (is_clean (get_or t 0 0) 34 refl h)
        run_clean
        in
        rw (quoted_is t n true false k e f)
        (record {
          some = omega arith;
          high = omega (arith, inside t (suc n) 34 (eqb-true (get_or t (suc n) 0) 34 e) (omega arith));
          clean = λ j q. upto (Clean t) (suc n) 0 (λ i g. front i (omega arith)) (is_clean (get_or t (suc n) 0) 34 refl e)
              (λ i g. absurd (omega arith)) j (omega arith);
          fits = refl;
          spelled = (
            eqb-true (get_or t 0 0) 34 h,
            λ i q. let c : suc i ≡ 1 + i = omega arith in rw c (run_in_at is_inside t 1 i (omega arith)),
            eqb-true (get_or t (suc n) 0) 34 e,
          );
        })

mark-whole : (t : List ℕ) → among ":;,=>.+-%([{)]}" (get_or t 0 0) ≡ true → 0 < length t → Whole t (mark (get_or t 0 0)) 1
unfolding one_of every
mark-whole t h z =
    record {
      some = omega arith;
      high = z;
      clean = λ j q. let e : j ≡ 0 = omega arith in rw e (set_clean (bytes ":;,=>.+-%([{)]}") (get_or t 0 0) refl h);
      fits = ne_eqb (get_or t 0 0) 0 (λ e. never (rw e at h));
      spelled = (refl, refl, h);
    }

-- ---- numbers

-- the byte at j is of a name or a number
abbrev Word : List ℕ → ℕ → Type 0
Word t j = is_word_byte (get_or t j 0) ≡ true

module _ (t : List ℕ) (w : ℕ) (fits : w ≤ length t) (digits : (j : ℕ) → j < w → Word t j) where
  -- what holds below m, and at r places from there on
  along : (m r : ℕ) → ((j : ℕ) → j < m → Word t j) → ((i : ℕ) → i < r → Word t (m + i)) → (j : ℕ) → j < m + r → Word t j
  along m r a b j h = go (ltb j m) refl
    where
      go : (x : Bool) → ltb j m ≡ x → Word t j
      go true e = a j (ltb-true j m e)
      go false e =
          let l = ltb-false j m e in
          let z : m + (j - m) ≡ j = omega arith in
          rw z at (b (j - m) (omega arith))

  record Fraction (e : ℕ) : Type 0 where
    low : w ≤ e
    high : e ≤ length t
    words : (j : ℕ) → j < e → Word t j

  fraction-whole : (x : Bool) → point_at t w ≡ x → Fraction (past_fraction x t w)
  unfolding past_fraction point_at one_of
  fraction-whole false h = record { low = omega arith; high = fits; words = digits }
  fraction-whole true h = record {
    low = omega arith;
    high = run_fits is_digit t (suc w) (point_inside t w h);
    words = upto
        (Word t)
        w
        (run is_digit (drop (suc w) t))
        digits
        (subst (λ (x : ℕ). is_word_byte x ≡ true)
        (sym (eqb-true (get_or t w 0) 46 (both (eqb (get_or t w 0) 46) (is_digit (get_or t (suc w) 0)) h).0))
        refl)
        (λ i q. digit-word (get_or t (suc w + i) 0) (run_in_at is_digit t (suc w) i q));
  }

  sign_word : (b : ℕ) → among "+-" b ≡ true → is_word_byte b ≡ true
  unfolding every one_of
  sign_word b h = every_in is_word_byte (bytes "+-") b refl h

  mark-word : (b : ℕ) → among "eE" b ≡ true → is_word_byte b ≡ true
  unfolding every one_of
  mark-word b h = every_in is_word_byte (bytes "eE") b refl h

  before_digits : (e : ℕ) → Fraction e → among "eE" (get_or t e 0) ≡ true → (j : ℕ) → j < power_from t e → Word t j
  unfolding power_from
  before_digits e f m = go (among "+-" (get_or t (suc e) 0)) refl
    where
      one : (j : ℕ) → j < e + 1 → Word t j
      one = along e 1 f.words (λ i g. let z : e + i ≡ e = omega arith in rw z (mark-word (get_or t e 0) m))

      go : (x : Bool) → among "+-" (get_or t (suc e) 0) ≡ x → (j : ℕ) → j < cond x (e + 2) (e + 1) → Word t j
      go false q j h = one j h
      go true q j h =
          along (e + 1) 1 one (λ i g. let z : e + 1 + i ≡ suc e = omega arith in rw z (sign_word (get_or t (suc e) 0) q)) j (omega arith)

  -- an exponent: its `e`, a sign or none, its digits
  power_whole : (e : ℕ) → Fraction e → Fraction (past_power t e (power_size t e))
  power_whole e f = go (power_size t e) refl
    where
      go : (k : ℕ) → power_size t e ≡ k → Fraction (past_power t e k)
      go zero q = rw (past_none t e 0 refl) f
      go (suc k) q =
          let p : PowerIs t e (suc k) = rw q at (power_is t e) in
          let low = from_low t e in
          rw (past_some t e (suc k) (omega arith))
          (record {
            low = omega (arith, f.low, low.0);
            high = p.two.high (omega arith);
            words = λ j h. along (power_from t e) (suc k) (before_digits e f (p.mark (omega arith)))
                (λ i g. digit-word (get_or t (power_from t e + i) 0) (p.two.digits i g)) j h;
          })

  suffix_whole : (e : ℕ) → Fraction e → (z : Bool) → suffix_at t e ≡ z → Fraction (past_suffix z e)
  unfolding past_suffix suffix_at
  suffix_whole e f false h = f
  suffix_whole e f true h =
      record {
        low = omega (arith, f.low);
        high = suffix_inside t e h;
        words = λ j q. upto (Word t) e 0 f.words (subst (λ (x : ℕ). is_word_byte x ≡ true) (sym (eqb-true (get_or t e 0) 115 h)) refl)
            (λ i g. absurd (omega arith)) j (omega arith);
      }

-- the digits of a number, q of them after the point, up to e
pub digits_below : (t : List ℕ) (w e q : ℕ) (x : Bool) → e ≡ past_fraction x t w
    → q ≡ places_of x w e → w ≤ run is_digit t → w ≤ 10 → q ≤ 9
    → decimal (decimal 0 (take w t)) (part t (suc w) q) < 10 ^ 19
digits_below t w e q x k l h g b =
    let d = digits_small (drop (e - q) t) q 10 (decimal 0 (take w t)) (whole_small t w (decimal 0 (take w t)) 10 refl h g)
    (fraction-run t w e q x k l)
    in
    ten_fits _ _ 19 (rw (fraction_is t w e q x k l) at d) (omega arith)

number-whole : (t : List ℕ) → is_digit (get_or t 0 0) ≡ true → 0 < length t → WholeOf t (number_at t)
number-whole t h z = go (run is_digit t) refl (point_at t (run is_digit t)) refl
  where
    go : (w : ℕ) → w ≡ run is_digit t → (x : Bool) → x ≡ point_at t w → WholeOf t (number_at t)
    go w k x l = by (clings t (not ((x || ltb 0 m) || suffix_at t stop)) n) refl (ltb 40 w || ltb 40 (places_of x w e)) refl
      where
        e : ℕ
        e = past_fraction x t w

        m : ℕ
        m = power_size t e

        stop : ℕ
        stop = past_power t e m

        n : ℕ
        n = past_suffix (suffix_at t stop) stop

        parts : Parts t w x e m (suffix_at t stop) n
        parts = record { whole = k; point = l; end = refl; power = refl; suffix = refl; next = refl }

        by : (a : Bool) → clings t (not ((x || ltb 0 m) || suffix_at t stop)) n ≡ a
            → (b : Bool) → (ltb 40 w || ltb 40 (places_of x w e)) ≡ b
            → WholeOf t (number_at t)
        by true p b q = rw (number-clings parts p) tt
        by false p true q = rw (number-long parts p q) tt
        by false p false q =
            let few = neither (ltb 40 w) (ltb 40 (places_of x w e)) q in
            let a = ltb-false 40 w few.0 in
            let b = ltb-false 40 (places_of x w e) few.1 in
            let low : w ≤ length t = omega (arith, run_le is_digit t) in
            let digits : (j : ℕ) → j < w → Word t j = λ j g. digit-word (get_or t j 0) (run_in is_digit t j (omega arith)) in
            let f = suffix_whole t w low digits stop (power_whole t w low digits e (fraction-whole t w low digits x (sym l)))
            (suffix_at t stop)
            refl
            in
            rw (number-written parts _ p a refl b)
            (record {
              some = omega (arith, f.low, run_at is_digit t 0 z h);
              high = f.high;
              clean = λ j q. word_clean (get_or t j 0) (f.words j q);
              fits = tt;
              spelled = f.words;
            })

-- ---- each lexeme

letter_some : (t : List ℕ) (p : ℕ → Bool) → p 0 ≡ false → p (get_or t 0 0) ≡ true → 0 < length t
letter_some [] p h e = absurd (never (sym h ∙ e))
letter_some (b ∷ t) p h e = omega arith

lexeme-whole : (t : List ℕ) → WholeOf t (lexeme t)
unfolding one_of
lexeme-whole t =
    go (is_letter (get_or t 0 0)) refl (is_digit (get_or t 0 0)) refl (eqb (get_or t 0 0) 34) refl (among ":;,=>.+-%([{)]}" (get_or t 0 0)) refl
  where
    go : (a : Bool) → is_letter (get_or t 0 0) ≡ a → (b : Bool)
        → is_digit (get_or t 0 0) ≡ b → (c : Bool) → eqb (get_or t 0 0) 34 ≡ c
        → (d : Bool) → among ":;,=>.+-%([{)]}" (get_or t 0 0) ≡ d
        → WholeOf t (lexeme t)
    go true e b f c g d h = rw (lex_is t true b c d e f g h) (name_whole t e (letter_some t is_letter refl e))
    go false e true f c g d h = rw (lex_is t false true c d e f g h) (number-whole t f (letter_some t is_digit refl f))
    go false e false f true g d h = rw (lex_is t false false true d e f g h) (quoted_whole t g)
    go false e false f false g true h =
        rw (lex_is t false false false true e f g h) (mark-whole t h (letter_some t (among ":;,=>.+-%([{)]}") refl h))
    go false e false f false g false h = rw (lex_is t false false false false e f g h) tt

pub whole_of : (t : List ℕ) (k : Kind) (n : ℕ) → lexeme t ≡ piece k n → Whole t k n
whole_of t k n e = rw e at (lexeme-whole t)
