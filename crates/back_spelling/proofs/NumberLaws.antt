-- Numbers put as their form has them.
use Prim.Native.Nat.{ℕ, zero, suc, ◌+◌, ◌*◌, ◌/◌, ◌%◌, ◌^◌, ◌≤◌, ◌<◌}
use mathlib.Core.Bool.{true, false}
use mathlib.Core.List.{List, [], ◌∷◌, ◌++◌, append-nil, append_assoc}
use mathlib.Core.Option.{Option, none, some}
use mathlib.Core.Path.{◌≡◌, refl, sym, ap, ◌∙◌, subst}
use native.Mathlib.Nat.{div-one, add-zero, lt_of_lt_of_le, pow-suc, mul_assoc, mul-pos, one-le-pow}
use lib.Dec.{ltb, lit<, lit≤}
use lib.ListN.{length}
use borrow.Author.Tests.{le-ltb}
use Rattle.digits.proofs.DigitLaws.{tenth_below}
use native.Mathlib.Omega.{arith}
use Rattle.digits.specs.Numeral.{float, percentage, counted, all, fraction}
use Rattle.digits.specs.Fewest.{form, spelled, trimmed, fewest, least_percent, whole_digits, last_digits}
use Rattle.digits.specs.AnswerMeans.{whole_number, number_of, Neat, decimal_of, whole_of}
use Rattle.std.specs.Prelude.{Some, None}
use Rattle.digits.specs.declared.Decimal.{Decimal}
use Rattle.digits.proofs.NumeralLaws.{trim_same, same_low, same_whole, whole-limit}
use Rattle.digits.proofs.FewestLaws.{fewest_of}
use Rattle.digits.proofs.PercentLaws.{percent_of}
use Rattle.pieces.specs.Pieces.{a_numeral, spelt, fits}
use Rattle.pieces.proofs.FitLaws.{is_fits}
use Rattle.pieces.proofs.FormLaws.{float_fits, percent-fits, counted-fits}
use Rattle.back_spelling.specs.Means.{Page, spoiled, spoil, put_on, put, page_of, Spellable, Below, Large, put_number}
use Rattle.back_spelling.specs.declared.PieceWriter.{PieceWriter}
use Rattle.back_spelling.proofs.PageLaws.{lent_of_lem, put_both}

-- ---- where nothing is found, it does not fit

no_float : (b : ℕ) → fewest b ≡ none → fits form (a_numeral float b) ≡ false
unfolding form fits all
no_float b e = rw e refl

no_percentage : (b : ℕ) → least_percent b ≡ none → fits form (a_numeral percentage b) ≡ false
unfolding form fits all
no_percentage b e = rw e refl

-- ---- what is put for them

abbrev number_on : Page → List ℕ × List ℕ → Page
number_on p w = put_on (32 ∷ []) (put_on (w.0 ++ fraction w.1) p)

spell-put : (k : _) (b : ℕ) (p : Page) → fits form (a_numeral k b) ≡ true
    → put_on (32 ∷ []) (put_on ((form k b).0 ++ fraction (form k b).1) p) ≡ put (a_numeral k b) p
unfolding put spelt
spell-put k b p h = put_both ((form k b).0 ++ fraction (form k b).1) (32 ∷ []) p ∙ rw h refl

none_put : (k : _) (b : ℕ) (p : Page) → fits form (a_numeral k b) ≡ false → spoil p ≡ put (a_numeral k b) p
unfolding put
none_put k b p h = rw h refl

pub float_spellable : (b : ℕ) → Spellable (decimal_of (fewest b))
float_spellable b = go (fewest b) refl
  where
    go : (o : Option ℕ) → fewest b ≡ o → Spellable (decimal_of o)
    go none e = tt
    go (some m) e = (same_low (trim_same m), rw (same_whole (trim_same m)) (whole-limit m (fewest_of b m e).below))

float_form : (b m : ℕ) → fewest b ≡ some m → form float b ≡ spelled (trimmed 40 m)
unfolding form
float_form b m e = rw e refl

pub float_put : (b : ℕ) (p : Page) → put_number (decimal_of (fewest b)) p ≡ put (a_numeral float b) p
float_put b p = go (fewest b) refl
  where
    go : (o : Option ℕ) → fewest b ≡ o → put_number (decimal_of o) p ≡ put (a_numeral float b) p
    go none e = none_put float b p (no_float b e)
    go (some m) e = ap (number_on p) (sym (float_form b m e)) ∙ spell-put float b p (is_fits form _ (float_fits b m e))

pub percent_spellable : (b : ℕ) → Spellable (whole_of (least_percent b))
percent_spellable b = go (least_percent b) refl
  where
    go : (o : Option ℕ) → least_percent b ≡ o → Spellable (whole_of o)
    go none e = tt
    go (some n) e = (omega arith, rw (div-one n) (percent_of b n e).below)

percent-form : (b n : ℕ) → least_percent b ≡ some n → form percentage b ≡ (whole_digits 39 n, [])
unfolding form
percent-form b n e = rw e refl

-- a whole number has no digits behind the point
whole-spelled : (n : ℕ) → spelled (n, 0) ≡ (whole_digits 39 n, [])
unfolding last_digits
whole-spelled n = ap (λ (m : ℕ). (whole_digits 39 m, [])) (div-one n)

pub percent-put : (b : ℕ) (p : Page) → put_number (whole_of (least_percent b)) p ≡ put (a_numeral percentage b) p
percent-put b p = go (least_percent b) refl
  where
    go : (o : Option ℕ) → least_percent b ≡ o → put_number (whole_of o) p ≡ put (a_numeral percentage b) p
    go none e = none_put percentage b p (no_percentage b e)
    go (some n) e =
        ap (number_on p) (whole-spelled n ∙ sym (percent-form b n e)) ∙ spell-put percentage b p (is_fits form _ (percent-fits b n e))

-- a u32: its digits, and a blank
pub count-put : (n : ℕ) (p : Page) {q r : Page} → n < 2 ^ 32 → ((k : ℕ) → n < 10 ^ suc k → q ≡ put_on (whole_digits k n) p)
    → r ≡ put_on (32 ∷ []) q → r ≡ put (a_numeral counted n) p
unfolding put spelt form fraction
count-put n p h e f =
    f ∙ ap (put_on (32 ∷ [])) (e 39 (lt_of_lt_of_le h (lit≤ tt))) ∙ put_both (whole_digits 39 n) (32 ∷ []) p
    ∙ rw (is_fits form (a_numeral counted n) (counted-fits n h))
    (ap (λ (bs : List ℕ). put_on (bs ++ 32 ∷ []) p) (sym (append-nil (whole_digits 39 n))))

-- ---- a number that may be there

pub not_found : (c : PieceWriter) → spoiled (c.out.ghost_name, length c.out.now) ≡ put_number (number_of None) (page_of c)
not_found c = rw (lent_of_lem c) refl

module _ (d : Decimal) (s : Spellable (number_of (Some d))) where
  pub found_below : Below d
  found_below = s.1

  -- the digits behind the point are those of the lowest part
  low_digits : Neat d → last_digits d.places d.n ≡ last_digits d.places (whole_number d)
  low_digits k = go d.places k.parts
    where
      go : (p : ℕ) → (0 < p → (d.middle ≡ 0) × (d.high ≡ 0)) → last_digits p d.n ≡ last_digits p (whole_number d)
      go zero f = unfold last_digits in refl
      go (suc p) f = let e = f (omega arith) in ap (last_digits (suc p)) (sym (rw (e.0, e.1, add-zero)))

  pub found-put : Neat d → (p : Page) {q r o : Page} → q ≡ put_on (whole_digits 39 (whole_number d / 10 ^ d.places)) p
      → r ≡ put_on (fraction (last_digits d.places d.n)) q → o ≡ put_on (32 ∷ []) r
      → o ≡ put_number (number_of (Some d)) p
  found-put k p {q = q} f g i =
      let w = whole_digits 39 (whole_number d / 10 ^ d.places) in
      let v = fraction (last_digits d.places (whole_number d)) in
      i
      ∙ ap (put_on (32 ∷ []))
      (g ∙ ap (λ (x : List ℕ). put_on (fraction x) q) (low_digits k) ∙ ap (put_on v) f ∙ put_both w v p)

-- ---- the digits before the point

-- hi times 10 ^ j and lo: the digits of hi, and the last j of lo
pub whole_shift : (j k hi lo m x : ℕ) → 0 < hi → lo < 10 ^ j → m ≡ k + j
    → x ≡ lo + hi * 10 ^ j
    → whole_digits m x ≡ whole_digits k hi ++ last_digits j lo
unfolding whole_digits last_digits
whole_shift zero k hi lo m x h l e f =
    let a : m ≡ k = omega arith in
    let b : x ≡ hi = omega arith in
    rw (a, b) (sym (append-nil (whole_digits k hi)))
whole_shift (suc j) k hi lo zero x h l e f = absurd (omega arith)
whole_shift (suc j) k hi lo (suc m) x h l e f =
    let y = hi * 10 ^ j in
    let g : x ≡ lo + y * 10 = f ∙ ap (λ (z : ℕ). lo + z) (ap (λ (z : ℕ). hi * z) (pow-suc 10 j) ∙ sym (mul_assoc hi (10 ^ j) 10)) in
    let some : 0 < y = mul-pos h (one-le-pow j 10 (lit< tt)) in
    let large : ltb x 10 ≡ false = le-ltb x 10 (big x lo y g some) in
    rw (large, tens x lo y g, last x lo y g)
    (ap (λ (z : List ℕ). z ++ (48 + lo % 10) ∷ []) (whole_shift j k hi (lo / 10) m (lo / 10 + y) h (tenth_below lo j l) (omega arith) refl)
    ∙ append_assoc (whole_digits k hi) (last_digits j (lo / 10)) ((48 + lo % 10) ∷ []))
  where
    big : (x lo y : ℕ) → x ≡ lo + y * 10 → 0 < y → 10 ≤ x
    big x lo y e h = omega arith

    tens : (x lo y : ℕ) → x ≡ lo + y * 10 → x / 10 ≡ lo / 10 + y
    tens x lo y e = omega arith

    last : (x lo y : ℕ) → x ≡ lo + y * 10 → x % 10 ≡ lo % 10
    last x lo y e = omega arith

module _ (d : Decimal) (l : Large d) where
  -- two parts
  pub two_parts : d.high ≡ 0 → whole_digits 39 (whole_number d) ≡ whole_digits 21 d.middle ++ last_digits 18 d.n
  two_parts e =
      whole_shift 18 21 d.middle d.n 39 (whole_number d) (some d.middle d.high l.some e) l.n refl
      (ap (λ (z : ℕ). d.n + (d.middle + z * 10 ^ 18) * 10 ^ 18) e ∙ ap (λ (z : ℕ). d.n + z * 10 ^ 18) (add-zero d.middle))
    where
      some : (a b : ℕ) → 0 < a + b → b ≡ 0 → 0 < a
      some a b h e = omega arith

  -- or three
  pub three-parts : 0 < d.high
      → whole_digits 39 (whole_number d) ≡ (whole_digits 3 d.high ++ last_digits 18 d.middle) ++ last_digits 18 d.n
  three-parts h =
      whole_shift 18 21 (d.middle + d.high * 10 ^ 18) d.n 39 (whole_number d) (more d.middle d.high h) l.n refl refl
      ∙ ap (λ (z : List ℕ). z ++ last_digits 18 d.n)
      (whole_shift 18 3 d.high d.middle 21 (d.middle + d.high * 10 ^ 18) h l.middle refl refl)
    where
      more : (a b : ℕ) → 0 < b → 0 < a + b * 10 ^ 18
      more a b h = omega arith

-- ---- by the code's answers

pub found_float : (b : ℕ) (p : Page) {q : Page} (o : Option (ℕ × ℕ)) → o ≡ decimal_of (fewest b) → q ≡ put_number o p
    → q ≡ put (a_numeral float b) p
found_float b p o e f = f ∙ ap (λ (x : Option (ℕ × ℕ)). put_number x p) e ∙ float_put b p

pub found-percent : (b : ℕ) (p : Page) {q : Page} (o : Option (ℕ × ℕ)) → o ≡ whole_of (least_percent b) → q ≡ put_number o p
    → q ≡ put (a_numeral percentage b) p
found-percent b p o e f = f ∙ ap (λ (x : Option (ℕ × ℕ)). put_number x p) e ∙ percent-put b p
