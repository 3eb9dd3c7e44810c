-- The tests `fits` and `all_fit` decide `Fits` and `AllFit`.
use Prim.Native.Nat.{ℕ}
use mathlib.Core.Bool.{Bool, true, false, ◌&&◌, not}
use mathlib.Core.List.{List, [], ◌∷◌}
use mathlib.Core.Option.{Option, none, some}
use mathlib.Core.Path.{◌≡◌, refl, ap, ◌∙◌}
use lib.Dec.{eqb, leb, ltb}
use lib.ListN.{length}
use borrow.Author.Tests.{eqb-true, eq-eqb, leb-true, le-leb, ltb-true, lt-ltb}
use Rattle.digits.specs.Numeral.{Numeral, Sort, all, counted, float, percentage, written}
use Rattle.text.specs.Bytes.{is_digit}
use Rattle.text.specs.Words.{is_one_of}
use Rattle.number.specs.Number.{Written, nearest, percent, whole, bits}
use Rattle.token.specs.Names.{is_keyword}
use Rattle.pieces.specs.Pieces.{Piece, a_word, a_name, a_plain, a_numeral, a_string, a_mark, a_pair}
use Rattle.pieces.specs.Pieces.{Form, word_like, name_like, curve_names, numeral, holds, means, plain_mark, fits, all_fit}
use Rattle.pieces.specs.Means.{Means, Fits, AllFit}
use Rattle.token.proofs.WholeLaws.{both, never}
use Rattle.pieces.proofs.PieceLaws.{no}

and_true : (a b : Bool) → a ≡ true → b ≡ true → (a && b) ≡ true
and_true a b e f = rw (e, f)

-- ---- numbers

numeral_is : (w : List ℕ × List ℕ) → numeral w ≡ true → Numeral w
numeral_is w e =
    let a = both (all is_digit w.0 && all is_digit w.1 && ltb 0 (length w.0) && leb (length w.0) 40) (leb (length w.1) 40) e in
    let b = both (all is_digit w.0 && all is_digit w.1 && ltb 0 (length w.0)) (leb (length w.0) 40) a.0 in
    let c = both (all is_digit w.0 && all is_digit w.1) (ltb 0 (length w.0)) b.0 in
    let d = both (all is_digit w.0) (all is_digit w.1) c.0 in
    record {
      whole = d.0;
      part = d.1;
      some = ltb-true 0 (length w.0) c.1;
      few = leb-true (length w.0) 40 b.1;
      short = leb-true (length w.1) 40 a.1;
    }

is_numeral : (w : List ℕ × List ℕ) → Numeral w → numeral w ≡ true
is_numeral w n =
    rw (n.whole, n.part, lt-ltb 0 (length w.0) n.some, le-leb (length w.0) 40 n.few, le-leb (length w.1) 40 n.short)

holds_is : (o : Option ℕ) (m : ℕ) → holds o m ≡ true → o ≡ some m
holds_is none m e = absurd (never e)
holds_is (some n) m e = ap some (eqb-true n m e)

is_holds : (o : Option ℕ) (m : ℕ) → o ≡ some m → holds o m ≡ true
is_holds o m e = ap (λ (x : Option ℕ). holds x m) e ∙ eq-eqb m m refl

means_is : (k : Sort) (m : ℕ) (w : Written) → means k m w ≡ true → Means k m w
means_is float m w e = eqb-true (bits (nearest false w)) m e
means_is percentage m w e =
    let h = both (not w.point) (eqb (bits (percent false w.digits)) m) e in
    (no w.point h.0, eqb-true (bits (percent false w.digits)) m h.1)
means_is counted m w e =
    let h = both (not w.point) (holds (whole false w) m) e in (no w.point h.0, holds_is (whole false w) m h.1)

is_means : (k : Sort) (m : ℕ) (w : Written) → Means k m w → means k m w ≡ true
is_means float m w h = eq-eqb (bits (nearest false w)) m h
is_means percentage m w h = rw (h.0, eq-eqb (bits (percent false w.digits)) m h.1)
is_means counted m w h = and_true (not w.point) _ (ap not h.0) (is_holds (whole false w) m h.1)

-- ---- pieces

name_is : (w : List ℕ) → name_like w ≡ true → (word_like w ≡ true) × (is_keyword w ≡ false)
name_is w e = let h = both (word_like w) (not (is_keyword w)) e in (h.0, no (is_keyword w) h.1)

module _ (form : Form) where
  fits-is : (x : Piece) → fits form x ≡ true → Fits form x
  unfolding fits
  fits-is (a_word w) e = e
  fits-is (a_name w) e = name_is w e
  fits-is (a_plain w) e =
      let h = both (name_like w) (not (is_one_of curve_names w)) e in
      let n = name_is w h.0 in
      (n.0, n.1, no (is_one_of curve_names w) h.1)
  fits-is (a_numeral k m) e =
      let h = both (numeral (form k m)) (means k m (written (form k m))) e in
      (numeral_is (form k m) h.0, means_is k m (written (form k m)) h.1)
  fits-is (a_string s) e = e
  fits-is (a_mark b) e = e
  fits-is (a_pair b c) e = both (plain_mark b) (plain_mark c) e

  pub is_fits : (x : Piece) → Fits form x → fits form x ≡ true
  unfolding fits
  is_fits (a_word w) h = h
  is_fits (a_name w) h = rw (h.0, h.1)
  is_fits (a_plain w) h = rw (h.0, h.1, h.2)
  is_fits (a_numeral k m) h = rw (is_numeral (form k m) h.0, is_means k m (written (form k m)) h.1)
  is_fits (a_string s) h = h
  is_fits (a_mark b) h = h
  is_fits (a_pair b c) h = rw (h.0, h.1)

  pub all_fit_lem : (xs : List Piece) → all_fit form xs ≡ true → AllFit form xs
  unfolding all_fit
  all_fit_lem [] e = tt
  all_fit_lem (x ∷ xs) e = let h = both (fits form x) (all_fit form xs) e in (fits-is x h.0, all_fit_lem xs h.1)

  pub fit_all : (xs : List Piece) → AllFit form xs → all_fit form xs ≡ true
  unfolding all_fit
  fit_all [] h = refl
  fit_all (x ∷ xs) h = rw (is_fits x h.0, fit_all xs h.1)
