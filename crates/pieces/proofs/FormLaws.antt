-- The fewest digits, `form`, write whatever a number of a text reads to.
use Prim.Native.Nat.{ℕ, ◌^◌, ◌<◌}
use mathlib.Core.Bool.{Bool, true, false, cond}
use mathlib.Core.List.{List, [], ◌∷◌}
use mathlib.Core.Option.{Option, none, some}
use mathlib.Core.Path.{◌≡◌, refl, sym, ◌∙◌, subst}
use native.Mathlib.Nat.{lt_of_lt_of_le, pow-le-pow_right}
use native.Mathlib.Omega.{arith}
use borrow.Author.Tests.{le-ltb, ltb-false}
use lib.Dec.{ltb, lit<, lit≤}
use Rattle.text.specs.Bytes.{decimal}
use Rattle.number.specs.Number.{Written, bits, nearest, whole}
use Rattle.digits.specs.Numeral.{float, percentage, counted, Numeral, all, pointed, written}
use Rattle.digits.specs.Fewest.{form, fewest, least_percent, whole_digits}
use Rattle.digits.specs.Means.{percent_bits}
use Rattle.digits.proofs.DigitLaws.{whole_digits_lem, whole_some, whole_few, whole-reads}
use Rattle.digits.proofs.NumeralLaws.{whole_below}
use Rattle.digits.proofs.FewestLaws.{fewest-numeral, fewest-reads, fewest_some}
use Rattle.digits.proofs.PercentLaws.{percent_of, no_percent}
use Rattle.pieces.specs.Pieces.{a_numeral}
use Rattle.pieces.specs.Means.{Fits, InText, Complete}

-- ---- where digits are found, they fit

pub float_fits : (b m : ℕ) → fewest b ≡ some m → Fits form (a_numeral float b)
unfolding form
float_fits b m e = rw e (fewest-numeral b m e, fewest-reads b m e)

-- a whole number's digits
whole-numeral : (n : ℕ) → n < 10 ^ 40 → Numeral (whole_digits 39 n, [])
unfolding all
whole-numeral n h = record {
  whole = whole_digits_lem 39 n h;
  part = refl;
  some = whole_some 39 n;
  few = whole_few 39 n 39 h;
  short = omega arith;
}

pub percent-fits : (b n : ℕ) → least_percent b ≡ some n → Fits form (a_numeral percentage b)
unfolding form pointed decimal percent_bits
percent-fits b n e =
    let l = percent_of b n e in rw e (whole-numeral n l.below, (refl, rw (whole-reads 39 n) l.reads))

pub counted-fits : (n : ℕ) → n < 2 ^ 32 → Fits form (a_numeral counted n)
unfolding form pointed decimal whole
counted-fits n h =
    (whole-numeral n (lt_of_lt_of_le h (lit≤ tt)), (refl, rw (whole-reads 39 n, le-ltb 4294967295 n (omega arith)) refl))

-- ---- they are found for whatever a number of a text reads to

some_float : (v : Written) → InText v → Fits form (a_numeral float (bits (nearest false v)))
unfolding nearest
some_float v i =
    let e : bits (nearest false (written i.form)) ≡ bits (nearest false v) = rw (i.digits, i.places) in
    let f = fewest_some (bits (nearest false v)) i.form i.numeral e in
    float_fits (bits (nearest false v)) f.0 f.1

-- a number with no point has no digits but those of its whole part
no_part : (a : ℕ) (ds : List ℕ) → pointed ds ≡ false → decimal a ds ≡ a
unfolding pointed decimal
no_part a [] e = refl
no_part a (d ∷ ds) e = absurd (let z : ◌≡◌ {A = ℕ} 0 1 = cc in omega arith)

digits_below : (v : Written) → InText v → v.point ≡ false → v.digits < 10 ^ 40
digits_below v i e =
    let w = i.form.0 in
    let is = i.digits ∙ no_part (decimal 0 w) i.form.1 (sym i.point ∙ e) in
    subst (λ (n : ℕ). n < 10 ^ 40) (sym is)
    (lt_of_lt_of_le (whole_below w i.numeral.whole) (pow-le-pow_right {n = 10} (lit< tt) i.numeral.few))

some_percent : (n : ℕ) → n < 10 ^ 40 → Fits form (a_numeral percentage (percent_bits n))
some_percent n h = go (least_percent (percent_bits n)) refl
  where
    go : (o : Option ℕ) → least_percent (percent_bits n) ≡ o → Fits form (a_numeral percentage (percent_bits n))
    go none e = absurd (no_percent (percent_bits n) e n h refl)
    go (some m) e = percent-fits (percent_bits n) m e

-- a u32 is below 2 ^ 32
whole-below-limit : (v : Written) (n : ℕ) → whole false v ≡ some n → n < 2 ^ 32
unfolding whole
whole-below-limit v n e = go (ltb 4294967295 v.digits) refl e
  where
    go : (b : Bool) → ltb 4294967295 v.digits ≡ b → cond {A = Option ℕ} b none (some v.digits) ≡ some n → n < 2 ^ 32
    go true q e = absurd (let z : ◌≡◌ {A = ℕ} 0 1 = cc in omega arith)
    go false q e = let s : v.digits ≡ n = cc in omega (arith, ltb-false 4294967295 v.digits q)

-- "a number has .. the fewest digits that read to it": if any text's number reads to it, `form` has such digits
pub complete : Complete form
unfolding percent_bits
complete = record {
  floats = some_float;
  percents = λ v i e. some_percent v.digits (digits_below v i e);
  counts = λ v n i p e. counted-fits n (whole-below-limit v n e);
}
