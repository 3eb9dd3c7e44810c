-- Of all percents that read to the same the form has the fewest digits, and of a number no zero too many.
use Prim.Native.Nat.{ℕ, suc, ◌+◌, ◌*◌, ◌/◌, ◌^◌, ◌≤◌, ◌<◌}
use mathlib.Core.Bool.{true, false}
use mathlib.Core.List.{List, [], ◌∷◌, ◌++◌}
use mathlib.Core.Option.{some}
use mathlib.Core.Path.{◌≡◌, sym, ap, ◌∙◌, subst}
use native.Mathlib.Nat.{le_refl, le_trans, le_of_eq, lt_of_le_of_lt, add-zero}
use native.Mathlib.Nat.{add-le-add, mul_assoc, mul-le-mul_right, pow-succ', zero-lt-suc}
use native.Mathlib.Omega.{arith}
use lib.ListN.{length}
use Rattle.text.specs.Bytes.{decimal, is_digit}
use Rattle.number.specs.Number.{percent, bits}
use Rattle.digits.specs.Numeral.{all, Numeral, written}
use Rattle.digits.specs.Fewest.{whole_digits, trimmed, numeral, least_percent}
use Rattle.digits.specs.Means.{percent_bits}
use Rattle.digits.proofs.DigitLaws.{decimal_snoc, length_snoc, last-length, last-reads}
use Rattle.digits.proofs.DigitLaws.{whole-reads, whole_digits_lem, Trimmed, trim}
use Rattle.digits.proofs.NumeralLaws.{whole_below, digits_le}
use Rattle.digits.proofs.FewestLaws.{Ahead}
use Rattle.digits.proofs.PercentLaws.{percent_of}

whole-written : (n : ℕ) → (written (whole_digits 39 n, [])).digits ≡ n
unfolding decimal
whole-written n = whole-reads 39 n

-- ---- of all percents that can be written the least has the fewest digits

pub percent_ahead : (b n : ℕ) → least_percent b ≡ some n → (l : List ℕ) → Numeral (l, []) → bits (percent false (decimal 0 l)) ≡ b
    → Ahead (whole_digits 39 n, []) (l, [])
unfolding percent_bits decimal
percent_ahead b n e l u r =
    let h : n ≤ decimal 0 l = (percent_of b n e).least (decimal 0 l) r in
    record {
      fewer = add-le-add (digits_le n (length l) u.some (lt_of_le_of_lt h (whole_below l u.whole))) (le_refl 0);
      smaller = λ q. mul-le-mul_right 1 (le_trans (le_of_eq (whole-written n)) h);
    }

-- ---- no zero too many

-- before the point only the number 0 begins with one
pub no_zero-before : (n : ℕ) → n < 10 ^ 40 → (d : ℕ) (l : List ℕ) → whole_digits 39 n ≡ 48 ∷ d ∷ l → ⊥
no_zero-before n h d l e = no (digits_le n (length (d ∷ l)) (zero-lt-suc (length l)) below) (ap length e)
  where
    rest : all is_digit (d ∷ l) ≡ true
    rest = unfold all in subst (λ (x : List ℕ). all is_digit x ≡ true) e (whole_digits_lem 39 n h)

    value : decimal 0 (d ∷ l) ≡ n
    value = unfold decimal in sym (ap (decimal 0) e) ∙ whole-reads 39 n

    below : n < 10 ^ length (d ∷ l)
    below = subst (λ (x : ℕ). x < 10 ^ length (d ∷ l)) value (whole_below (d ∷ l) rest)

    no : length (whole_digits 39 n) ≤ length (d ∷ l) → length (whole_digits 39 n) ≡ length (48 ∷ d ∷ l) → ⊥
    no a b = omega arith

-- and none ends the digits behind it
pub no_zero-behind : (m : ℕ) (l : List ℕ) → (numeral m).1 ≡ l ++ 48 ∷ [] → ⊥
no_zero-behind m l e = no (t.least (decimal a l) (length l) (suc t.cut) sums tenfold)
  where
    n : ℕ
    n = (trimmed 40 m).0

    p : ℕ
    p = (trimmed 40 m).1

    a : ℕ
    a = n / 10 ^ p

    t : Trimmed 40 m (trimmed 40 m)
    t = trim 40 m

    long : p ≡ suc (length l)
    long = sym (last-length p n) ∙ ap length e ∙ length_snoc l 48

    sums : length l + suc t.cut ≡ 40
    sums = omega (arith, long, t.sums)

    value : n ≡ decimal a l * 10
    value = sym (last-reads p n) ∙ ap (decimal a) e ∙ decimal_snoc a l 48 ∙ add-zero (decimal a l * 10)

    tenfold : decimal a l * 10 ^ suc t.cut ≡ m
    tenfold =
        ap (λ (x : ℕ). decimal a l * x) (pow-succ' 10 t.cut)
        ∙ sym (mul_assoc (decimal a l) 10 (10 ^ t.cut)) ∙ ap (λ (x : ℕ). x * 10 ^ t.cut) (sym value)
        ∙ t.value

    no : p ≤ length l → ⊥
    no h = omega (arith, long)
