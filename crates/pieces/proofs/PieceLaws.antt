-- The token that a text begins with, where the text begins with a piece and the end or a blank follows.
use Prim.Native.Nat.{ℕ, suc, ◌+◌, ◌-◌, ◌≤◌, ◌<◌}
use mathlib.Core.Bool.{Bool, true, false, ◌||◌, not}
use mathlib.Core.List.{List, [], ◌∷◌, ◌++◌, append_assoc, append-nil}
use mathlib.Core.Path.{◌≡◌, refl, sym, ap, ◌∙◌}
use native.Mathlib.Omega.{arith}
use native.Mathlib.Nat.{add-zero}
use lib.Dec.{eqb}
use borrow.Author.Tests.{eqb-true, lt-leb, ne_eqb}
use Rattle.digits.specs.Numeral.{Numeral, all, fraction, pointed, written}
use Rattle.text.proofs.ByteLaws.{within_is}
use lib.ListN.{length, get_or, take, drop, length-append}
use Rattle.number.specs.Number.{Written}
use lib.Seq.{take-append_seam, get_or-append_seam, get_or-append-add, drop-append-add}
use Rattle.text.specs.Bytes.{bytes, run, part, among, one_of, decimal, is_digit, is_letter, is_name, is_inside, is_blank}
use Rattle.token.specs.Token.{name, number, quoted, mark, piece, lexeme}
use Rattle.token.specs.Token.{number_at, point_at, past_fraction, suffix_at, past_suffix, clings, places_of, power_size, past_power}
use Rattle.token.specs.Split.{awaits, nest_mark}
use Rattle.token.proofs.WholeLaws.{both, never}
use Rattle.token.proofs.LexLaws.{name_is, quoted_is, Parts, number-written, written_parts, size_is, lex_is}
use Rattle.pieces.specs.Pieces.{Form, word_like, known_mark, plain_mark, spaced}

-- ---- runs

run-all : (p : ℕ → Bool) (w t : List ℕ) → all p w ≡ true → p (get_or t 0 0) ≡ false → run p (w ++ t) ≡ length w
unfolding run all
run-all p [] [] e f = refl
run-all p [] (b ∷ t) e f = rw f
run-all p (b ∷ w) t e f = let h = both (p b) (all p w) e in rw h.0 (ap suc (run-all p w t h.1 f))

at_seam : (w t : List ℕ) → get_or (w ++ t) (length w) 0 ≡ get_or t 0 0
at_seam w t = rw (sym (add-zero (length w))) (get_or-append-add w t 0 0)

-- what a text may go on with behind a piece: no byte, or a blank
pub record Clear (t : List ℕ) : Type 0 where
  pub edge : (p : ℕ → Bool) → p 0 ≡ false → p 32 ≡ false → p (get_or t 0 0) ≡ false

pub clear : (form : Form) (xs : List _) → Clear (spaced form xs)
unfolding spaced
clear form [] = record { edge = λ p e f. e }
clear form (x ∷ xs) = record { edge = λ p e f. f }

-- ---- a word

pub word-lexed : (w t : List ℕ) → word_like w ≡ true → Clear t → lexeme (w ++ t) ≡ piece (name w) (length w)
unfolding word_like all
word-lexed [] t e c = absurd (never e)
word-lexed (b ∷ w) t e c =
    let h = both (is_letter b) (all is_name w) e in
    let names : all is_name (b ∷ w) ≡ true = rw (h.0, h.1) in
    lex_is (b ∷ w ++ t) true _ _ _ h.0 refl refl refl
    ∙ name_is (b ∷ w ++ t) (length (b ∷ w)) false (sym (run-all is_name (b ∷ w) t names (c.edge is_name refl refl)))
    (rw (at_seam (b ∷ w) t) (c.edge (λ x. eqb x 34) refl refl))
    ∙ (rw take-append_seam)

-- ---- a string

pub string-lexed : (s t : List ℕ) → all is_inside s ≡ true → Clear t
    → lexeme (34 ∷ s ++ 34 ∷ [] ++ t) ≡ piece (quoted (length s)) (length s + 2)
unfolding one_of
string-lexed s t e c =
    let g : s ++ 34 ∷ [] ++ t ≡ s ++ 34 ∷ t = append_assoc s (34 ∷ []) t in
    let a : length s ≡ run is_inside (s ++ 34 ∷ t) = sym (run-all is_inside s (34 ∷ t) e refl) in
    let k : length s + 2 ≡ suc (length s + 1) = omega arith in
    let z : is_name (get_or (34 ∷ s ++ 34 ∷ t) (length s + 2) 0) ≡ false = rw (k, get_or-append-add s (34 ∷ t) 1 0) (c.edge is_name refl refl) in
    rw g
    (lex_is (34 ∷ s ++ 34 ∷ t) false false true _ refl refl refl refl
    ∙ quoted_is (34 ∷ s ++ 34 ∷ t) (length s) true false a (rw (get_or-append_seam s 34 t 0)) z)

-- ---- a mark

member : (p : ℕ → Bool) (cs : List ℕ) (b : ℕ) → all p cs ≡ true → one_of cs b ≡ true → p b ≡ true
unfolding all one_of
member p [] b h e = absurd (never e)
member p (c ∷ cs) b h e = let k = both (p c) (all p cs) h in go k.0 (λ r. member p cs b k.1 r) (eqb b c) refl e
  where
    go : p c ≡ true → (one_of cs b ≡ true → p b ≡ true) → (x : Bool) → eqb b c ≡ x → (x || one_of cs b) ≡ true → p b ≡ true
    go k ih true q r = rw (eqb-true b c q) k
    go k ih false q r = ih r

pub no : (a : Bool) → not a ≡ true → a ≡ false
no true e = absurd (never e)
no false e = refl

-- one of these is none of those
none_of : (cs : List ℕ) (p : ℕ → Bool) → all (λ x. not (p x)) cs ≡ true → (b : ℕ) → one_of cs b ≡ true → p b ≡ false
none_of cs p h b e = no (p b) (member (λ x. not (p x)) cs b h e)

abbrev marks : List ℕ
marks = bytes ":;,=>.+-%([{)]}"

pub mark-blank : (b : ℕ) → known_mark b ≡ true → is_blank b ≡ false
unfolding all one_of
mark-blank b e = none_of marks is_blank refl b e

pub mark-lexed : (b : ℕ) (t : List ℕ) → known_mark b ≡ true → lexeme (b ∷ t) ≡ piece (mark b) 1
unfolding all
mark-lexed b t e =
    lex_is (b ∷ t) false false false true (none_of marks is_letter refl b e) (none_of marks is_digit refl b e)
    (none_of marks (λ x. eqb x 34) refl b e) e

-- a mark that is no delimiter
abbrev plains : List ℕ
plains = bytes ":;,=>.+-%"

pub plain_known : (b : ℕ) → plain_mark b ≡ true → known_mark b ≡ true
unfolding all one_of
plain_known b e = member known_mark plains b refl e

pub plain_nests : (b : ℕ) (cs : List ℕ) → plain_mark b ≡ true → nest_mark b cs ≡ awaits cs
unfolding all one_of nest_mark
plain_nests b cs e = rw (none_of plains (among "([{") refl b e, none_of plains (among ")]}") refl b e)

-- ---- a number

digit_letter : (b : ℕ) → is_digit b ≡ true → is_letter b ≡ false
digit_letter b e =
    let r = within_is 48 57 b e in
    rw (lt-leb 97 b (omega arith), lt-leb 65 b (omega arith), ne_eqb b 95 (λ q. omega arith))

-- the digits d and what is behind them
digits_first : (d t : List ℕ) → all is_digit d ≡ true → 0 < length d → lexeme (d ++ t) ≡ number_at (d ++ t)
unfolding all
digits_first [] t e h = absurd (omega arith)
digits_first (b ∷ d) t e h =
    let k = both (is_digit b) (all is_digit d) e in
    lex_is (b ∷ d ++ t) false true _ _ (digit_letter b k.0) k.0 refl refl

-- a number without an exponent, by its parts
number_fine : {t : List ℕ} {w : ℕ} {x : Bool} {e : ℕ} {z : Bool} {n : ℕ} → Parts t w x e 0 z n → (v q : ℕ)
    → clings t (not ((x || false) || z)) n ≡ false → w ≤ 40 → q ≡ places_of x w e → q ≤ 40
    → v ≡ decimal (decimal 0 (take w t)) (part t (suc w) q)
    → number_at t ≡ piece (number (record { digits = v; places = q; point = x; exponent = false; suffix = z })) n
number_fine {n = n} p v q h a g b d =
    number-written p q h a g b ∙ ap (λ (y : Written). piece (number y) n) (sym (written_parts p v q refl g d))

whole-lexed : (d t : List ℕ) → all is_digit d ≡ true → 0 < length d
    → length d ≤ 40 → Clear t
    → lexeme (d ++ t) ≡ piece (number (written (d, []))) (length d)
unfolding point_at past_fraction past_power suffix_at past_suffix clings places_of pointed decimal
whole-lexed d t e h g c =
    let point : point_at (d ++ t) (length d) ≡ false = rw (at_seam d t) (rw (c.edge (λ x. eqb x 46) refl refl)) in
    let suffix : suffix_at (d ++ t) (length d) ≡ false = rw (at_seam d t) (c.edge (λ x. eqb x 115) refl refl) in
    let power : power_size (d ++ t) (length d) ≡ 0 = size_is (d ++ t) (length d) _ refl false
    (rw (at_seam d t) (c.edge (λ x. eqb x 101 || eqb x 69) refl refl))
    in
    let parts : Parts (d ++ t) (length d) false (length d) 0 false (length d) = record {
      whole = sym (run-all is_digit d t e (c.edge is_digit refl refl));
      point = sym point;
      end = refl;
      power = sym power;
      suffix = sym suffix;
      next = refl;
    }
    in
    let free : clings (d ++ t) true (length d) ≡ false = rw (at_seam d t) (rw (c.edge is_name refl refl, c.edge (λ x. eqb x 46) refl refl))
    in
    digits_first d t e h ∙ number_fine parts (decimal 0 d) 0 free g refl (omega arith) (rw take-append_seam)

-- with a point and the digits b ∷ f behind it
point_lexed : (d : List ℕ) (b : ℕ) (f t : List ℕ) → all is_digit d ≡ true
    → all is_digit (b ∷ f) ≡ true → 0 < length d → length d ≤ 40
    → length (b ∷ f) ≤ 40 → Clear t
    → lexeme (d ++ (46 ∷ b ∷ (f ++ t))) ≡ piece (number (written (d, b ∷ f))) (length d + length (46 ∷ b ∷ f))
unfolding point_at past_fraction past_power suffix_at past_suffix clings places_of pointed all
point_lexed d b f t e i h g k c =
    let u = d ++ (46 ∷ b ∷ (f ++ t)) in
    let w = length d in
    let n = length (b ∷ f) in
    let first = (both (is_digit b) (all is_digit f) i).0 in
    let one : suc w ≡ w + 1 = omega arith in
    let next : get_or u (suc w) 0 ≡ b = rw one (get_or-append-add d (46 ∷ b ∷ (f ++ t)) 1 0) in
    let far : suc w + n ≡ w + suc n = omega arith in
    let past : get_or u (suc w + n) 0 ≡ get_or t 0 0 = rw far (get_or-append-add d (46 ∷ b ∷ (f ++ t)) (suc n) 0 ∙ at_seam (b ∷ f) t) in
    let behind : drop (suc w) u ≡ b ∷ (f ++ t) = rw one (drop-append-add d (46 ∷ b ∷ (f ++ t)) 1) in
    let point : point_at u w ≡ true = rw (get_or-append_seam d 46 (b ∷ (f ++ t)) 0, next) first in
    let suffix : suffix_at u (suc w + n) ≡ false = rw past (c.edge (λ x. eqb x 115) refl refl) in
    let end : suc w + n ≡ past_fraction true u w = rw (behind, run-all is_digit (b ∷ f) t i (c.edge is_digit refl refl)) in
    let power : power_size u (suc w + n) ≡ 0 = size_is u (suc w + n) _ refl false (rw past (c.edge (λ x. eqb x 101 || eqb x 69) refl refl))
    in
    let parts : Parts u w true (suc w + n) 0 false (suc w + n) = record {
      whole = sym (run-all is_digit d (46 ∷ b ∷ (f ++ t)) e refl);
      point = sym point;
      end = end;
      power = sym power;
      suffix = sym suffix;
      next = refl;
    }
    in
    let free : clings u false (suc w + n) ≡ false = rw past (rw (c.edge is_name refl refl)) in
    let len : suc w + n - suc w ≡ n = omega arith in
    digits_first d (46 ∷ b ∷ (f ++ t)) e h
    ∙ number_fine parts (decimal (decimal 0 d) (b ∷ f)) n free g (sym len) k
    (rw (take-append_seam d (46 ∷ b ∷ (f ++ t)), behind, take-append_seam (b ∷ f) t))
    ∙ (rw far)

pub number-lexed : (w : List ℕ × List ℕ) (t : List ℕ) → Numeral w → Clear t
    → lexeme (w.0 ++ fraction w.1 ++ t) ≡ piece (number (written w)) (length (w.0 ++ fraction w.1))
unfolding fraction
number-lexed w t h c = go w.0 w.1 h.whole h.part h.some h.few h.short
  where
    go : (d f : List ℕ) → all is_digit d ≡ true → all is_digit f ≡ true
        → 0 < length d → length d ≤ 40 → length f ≤ 40
        → lexeme (d ++ fraction f ++ t) ≡ piece (number (written (d, f))) (length (d ++ fraction f))
    go d [] e i h g k = rw append-nil (whole-lexed d t e h g c)
    go d (b ∷ f) e i h g k = rw (append_assoc d (46 ∷ b ∷ f) t, length-append d (46 ∷ b ∷ f)) (point_lexed d b f t e i h g k c)

pub digit-blank : (b : ℕ) → is_digit b ≡ true → is_blank b ≡ false
unfolding one_of
digit-blank b e =
    let r = within_is 48 57 b e in
    rw (ne_eqb b 32 (λ q. omega arith), ne_eqb b 9 (λ q. omega arith), ne_eqb b 10 (λ q. omega arith), ne_eqb b 13 (λ q. omega arith))

pub letter_blank : (b : ℕ) → is_letter b ≡ true → is_blank b ≡ false
unfolding all
letter_blank b e = go (is_blank b) refl
  where
    go : (x : Bool) → is_blank b ≡ x → x ≡ false
    go true q = let y : false ≡ true = sym (no (is_letter b) (member (λ x. not (is_letter x)) (32 ∷ 9 ∷ 10 ∷ 13 ∷ []) b refl q)) ∙ e in sym y
    go false q = refl
