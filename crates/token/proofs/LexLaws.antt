-- Laws of the token that a text begins with.
use Prim.Native.Nat.{ℕ, zero, suc, ◌+◌, ◌-◌, ◌*◌, ◌^◌, ◌≤◌, ◌<◌}
use native.Mathlib.Nat.{mul-one, add-zero}
use mathlib.Core.List.{List, [], ◌∷◌}
use mathlib.Core.Bool.{Bool, true, false, ◌&&◌, ◌||◌, not, cond}
use mathlib.Core.Path.{◌≡◌, refl, sym, ◌∙◌}
use native.Mathlib.Omega.{arith}
use native.Mathlib.Numerals.{add-one}
use lib.Dec.{ltb, eqb}
use lib.ListN.{length, get_or, take, drop, length-drop, get_or-eq_default}
use borrow.Author.Tests.{ltb-true, ltb-false, lt-ltb, le-ltb, eqb-true}
use Rattle.text.specs.Bytes.{run, part, one_of, among, decimal, is_name, is_digit, is_letter, is_inside}
use Rattle.text.proofs.ByteLaws.{run_le, tests, tests_are}
use Rattle.limbs.proofs.NumberLaws.{ten_fits, ten_positive, digits_small, run_in_at}
use Rattle.error.specs.declared.Refusal.TheVariants.{BadForm, TooManyDigits}
use Rattle.token.specs.Token.{name, number, quoted, mark, bad, piece, name_at, quoted_at, point_at}
use Rattle.token.specs.Token.{none, up, down, power_from, power_digits, power_size, power_by}
use Rattle.token.specs.Token.{power_at, past_power, is_power, times, over, places_at}
use Rattle.token.specs.Token.{past_fraction, suffix_at, past_suffix, clings, places_of, written_by, number_by, number_at, written_at, lexeme}
use Rattle.token.specs.Means.{Digits}

pub or_false : (x : Bool) → (x || false) ≡ x
or_false true = refl
or_false false = refl

both_false : (a b : Bool) → (a || b) ≡ false → (a ≡ false) × (b ≡ false)
both_false true b h = absurd (let z : ◌≡◌ {A = ℕ} 0 1 = cc in omega arith)
both_false false b h = (refl, h)

-- a byte that is not 0 stands inside
pub inside : (t : List ℕ) (n b : ℕ) → get_or t n 0 ≡ b → 0 < b → n < length t
inside t n b e h = go (ltb n (length t)) refl
  where
    go : (x : Bool) → ltb n (length t) ≡ x → n < length t
    go true q = omega (arith, ltb-true n (length t) q)
    go false q = absurd (omega (arith, get_or-eq_default t 0 (ltb-false n (length t) q)))

-- a run ends inside the text, or at its end
pub run_fits : (p : ℕ → Bool) (t : List ℕ) (from : ℕ) → from ≤ length t → from + run p (drop from t) ≤ length t
run_fits p t from h = omega (arith, run_le p (drop from t), length-drop from t)

-- ---- names and strings

pub name_is : (t : List ℕ) (n : ℕ) (b : Bool) → n ≡ run is_name t → eqb (get_or t n 0) 34 ≡ b
    → name_at t ≡ cond b (bad BadForm) (piece (name (take n t)) n)
unfolding name_at
name_is t n b e h = rw (sym e, h)

pub quoted_is : (t : List ℕ) (n : ℕ) (b c : Bool) → n ≡ run is_inside (drop 1 t)
    → eqb (get_or t (suc n) 0) 34 ≡ b → is_name (get_or t (n + 2) 0) ≡ c
    → quoted_at t ≡ cond (b && not c) (piece (quoted n) (n + 2)) (bad BadForm)
unfolding quoted_at
quoted_is t n b c e h g = rw (sym e, h, g)

-- r is the place of the closing `"`
pub quoted_at_is : (t : List ℕ) (r : ℕ) (b c : Bool) → r ≡ 1 + run is_inside (drop 1 t)
    → eqb (get_or t r 0) 34 ≡ b → is_name (get_or t (r + 1) 0) ≡ c
    → quoted_at t ≡ cond (b && not c) (piece (quoted (r + 1 - 2)) (r + 1)) (bad BadForm)
quoted_at_is t r b c e h g =
    let n : r - 1 ≡ run is_inside (drop 1 t) = omega arith in
    let s : suc (r - 1) ≡ r = omega arith in
    let k : r - 1 + 2 ≡ r + 1 = omega arith in
    let z : r + 1 - 2 ≡ r - 1 = omega arith in
    quoted_is t (r - 1) b c n (rw s h) (rw k g) ∙ (rw (k, z))

-- ---- numbers

pub point_inside : (t : List ℕ) (w : ℕ) → point_at t w ≡ true → w < length t
unfolding point_at
point_inside t w h = go (eqb (get_or t w 0) 46) refl h
  where
    go : (x : Bool) → eqb (get_or t w 0) 46 ≡ x → (x && is_digit (get_or t (suc w) 0)) ≡ true → w < length t
    go true e q = inside t w 46 (eqb-true (get_or t w 0) 46 e) (omega arith)
    go false e q = absurd (let z : ◌≡◌ {A = ℕ} 0 1 = cc in omega arith)

pub suffix_inside : (t : List ℕ) (n : ℕ) → suffix_at t n ≡ true → n < length t
unfolding suffix_at
suffix_inside t n h = inside t n 115 (eqb-true (get_or t n 0) 115 h) (omega arith)

-- q digits stand after the point, up to e, w of them before it
module _ (t : List ℕ) (w e q : ℕ) where
  pub fraction_low : (x : Bool) → q ≡ places_of x w e → q ≤ e
  unfolding places_of
  fraction_low true l = omega arith
  fraction_low false l = omega arith

  pub fraction-run : (x : Bool) → e ≡ past_fraction x t w → q ≡ places_of x w e → q ≤ run is_digit (drop (e - q) t)
  unfolding past_fraction places_of
  fraction-run true k l = let z : e - q ≡ suc w = omega arith in rw z (omega arith)
  fraction-run false k l = omega arith

  pub fraction_is : (x : Bool) → e ≡ past_fraction x t w → q ≡ places_of x w e → part t (e - q) q ≡ part t (suc w) q
  unfolding past_fraction places_of
  fraction_is true k l = let z : e - q ≡ suc w = omega arith in rw z
  fraction_is false k l = rw l

-- a number's digits end in the text
pub fraction-inside : (t : List ℕ) (w : ℕ) (x : Bool) → x ≡ point_at t w → w ≤ length t → past_fraction x t w ≤ length t
unfolding past_fraction
fraction-inside t w true p h = run_fits is_digit t (suc w) (point_inside t w (sym p))
fraction-inside t w false p h = h

-- ---- exponents

-- a byte that is one of two
pub one_of_two : (b c d : ℕ) (x : Bool) → (eqb b c || eqb b d) ≡ x → one_of (c ∷ d ∷ []) b ≡ x
unfolding tests
one_of_two b c d x e = sym (tests_are c (d ∷ []) b) ∙ e

-- where the digits begin, b standing behind the `e`
pub from_is : (t : List ℕ) (n b : ℕ) → b ≡ get_or t (n + 1) 0 → (x : Bool)
    → (eqb b 43 || eqb b 45) ≡ x → power_from t n ≡ cond x (n + 2) (n + 1)
unfolding power_from
from_is t n b e x h = rw (sym (add-one n), sym e, one_of_two b 43 45 x h)

pub size_is : (t : List ℕ) (n b : ℕ) → b ≡ get_or t n 0 → (x : Bool) → (eqb b 101 || eqb b 69) ≡ x
    → power_size t n ≡ cond x (power_digits t (power_from t n)) 0
unfolding power_size
size_is t n b e x h = rw (sym e, one_of_two b 101 69 x h)

pub digits_are : (t : List ℕ) (m n : ℕ) → n ≡ run is_digit (drop m t) → (x : Bool) → ltb 2 n ≡ x → power_digits t m ≡ cond x 2 n
unfolding power_digits
digits_are t m n e x h = rw (sym e, h)

pub from_low : (t : List ℕ) (n : ℕ) → (n + 1 ≤ power_from t n) × (power_from t n ≤ n + 2)
unfolding power_from
from_low t n = go (among "+-" (get_or t (suc n) 0))
  where
    go : (x : Bool) → (n + 1 ≤ cond x (n + 2) (n + 1)) × (cond x (n + 2) (n + 1) ≤ n + 2)
    go true = (omega arith, omega arith)
    go false = (omega arith, omega arith)

-- behind it
pub past_none : (t : List ℕ) (n k : ℕ) → k ≡ 0 → past_power t n k ≡ n
unfolding past_power
past_none t n k e = rw e

pub past_some : (t : List ℕ) (n k : ℕ) → 0 < k → past_power t n k ≡ power_from t n + k
unfolding past_power
past_some t n zero h = absurd (omega arith)
past_some t n (suc k) h = refl

-- one or two digits at m, or none
pub record Two (t : List ℕ) (m k : ℕ) : Type 0 where
  pub few : k ≤ 2
  pub high : 0 < k → m + k ≤ length t
  pub run : k ≤ run is_digit (drop m t)
  pub digits : (i : ℕ) → i < k → is_digit (get_or t (m + i) 0) ≡ true

-- the first k of a run of digits
first_digits : (t : List ℕ) (m k : ℕ) → k ≤ 2 → k ≤ run is_digit (drop m t) → Two t m k
first_digits t m k h l = record {
  few = h;
  high = λ z. omega (arith, run_le is_digit (drop m t), length-drop m t);
  run = l;
  digits = λ i z. run_in_at is_digit t m i (omega arith);
}

two_is : (t : List ℕ) (m : ℕ) → Two t m (power_digits t m)
two_is t m = go (ltb 2 (run is_digit (drop m t))) refl
  where
    go : (x : Bool) → ltb 2 (run is_digit (drop m t)) ≡ x → Two t m (power_digits t m)
    go true e =
        rw (digits_are t m (run is_digit (drop m t)) refl true e)
        (first_digits t m 2 (omega arith) (omega (arith, ltb-true 2 (run is_digit (drop m t)) e)))
    go false e =
        rw (digits_are t m (run is_digit (drop m t)) refl false e)
        (first_digits t m _ (omega (arith, ltb-false 2 (run is_digit (drop m t)) e)) (omega arith))

-- an exponent at n with k digits, or none
pub record PowerIs (t : List ℕ) (n k : ℕ) : Type 0 where
  pub few : k ≤ 2
  pub mark : 0 < k → among "eE" (get_or t n 0) ≡ true
  pub two : Two t (power_from t n) k

pub power_is : (t : List ℕ) (n : ℕ) → PowerIs t n (power_size t n)
unfolding power_size
power_is t n = go (among "eE" (get_or t n 0)) refl
  where
    go : (a : Bool) → among "eE" (get_or t n 0) ≡ a → PowerIs t n (cond a (power_digits t (power_from t n)) 0)
    go true e = let z = two_is t (power_from t n) in record { few = z.few; mark = λ h. e; two = z }
    go false e = record {
      few = omega arith;
      mark = λ h. absurd (omega arith);
      two = record { few = omega arith; high = λ h. absurd (omega arith); run = omega arith; digits = λ i h. absurd (omega arith) };
    }

-- its number has two digits
pub power_small : (t : List ℕ) (n k : ℕ) → k ≡ power_size t n → decimal 0 (part t (power_from t n) k) < 100
power_small t n k e =
    let p : PowerIs t n k = rw (sym e) at (power_is t n) in
    ten_fits _ (0 + k) 2 (digits_small (drop (power_from t n) t) k 0 0 (ten_positive 0) p.two.run) (omega (arith, p.few))

pub power_high : (t : List ℕ) (n k : ℕ) → k ≡ power_size t n → n ≤ length t → past_power t n k ≤ length t
unfolding past_power
power_high t n zero e h = h
power_high t n (suc k) e h = let p = power_is t n in (rw (sym e) at p).two.high (omega arith)

-- whether there is one
pub power_some : (t : List ℕ) (n k : ℕ) → k ≡ power_size t n → is_power (power_at t n) ≡ ltb 0 k
unfolding power_at power_by
power_some t n zero e = rw (sym e)
power_some t n (suc k) e = rw (sym e) (go (eqb (get_or t (suc n) 0) 45) ∙ sym (lt-ltb 0 (suc k) (omega arith)))
  where
    go : (b : Bool)
        → is_power (cond b (down (decimal 0 (part t (power_from t n) (suc k)))) (up (decimal 0 (part t (power_from t n) (suc k))))) ≡ true
    go true = refl
    go false = refl

-- none
pub power_none : (t : List ℕ) (n : ℕ) → power_size t n ≡ 0 → power_at t n ≡ none
unfolding power_at power_by
power_none t n e = rw e

-- multiplied out: up, or down, by its number
pub power_up : (t : List ℕ) (n k d q : ℕ) → k ≡ power_size t n → eqb (get_or t (suc n) 0) 45 ≡ false
    → let e = decimal 0 (part t (power_from t n) k) in (times (power_at t n) d ≡ d * 10 ^ e) × (over (power_at t n) q ≡ q + 0)
unfolding power_at power_by decimal
power_up t n zero d q e h = rw (sym e) (sym (mul-one d), sym (add-zero q))
power_up t n (suc k) d q e h = rw (sym e, h) (refl, sym (add-zero q))

pub power_down : (t : List ℕ) (n k d q : ℕ) → k ≡ power_size t n → eqb (get_or t (suc n) 0) 45 ≡ true
    → let e = decimal 0 (part t (power_from t n) k) in (times (power_at t n) d ≡ d * 10 ^ 0) × (over (power_at t n) q ≡ q + e)
unfolding power_at power_by decimal
power_down t n zero d q e h = rw (sym e) (sym (mul-one d), sym (add-zero q))
power_down t n (suc k) d q e h = rw (sym e, h) (sym (mul-one d), refl)

pub clings_is : (t : List ℕ) (point s : Bool) (n : ℕ) (a b c d e : Bool)
    → is_name (get_or t n 0) ≡ a → point ≡ b → s ≡ c → eqb (get_or t n 0) 46 ≡ d
    → eqb (get_or t (n + 1) 0) 46 ≡ e
    → (a || (not (b || c) && d && not e)) ≡ clings t (not (point || s)) n
unfolding clings
clings_is t point s n a b c d e h p q g k = rw (h, p, q, g, sym (add-one n), k)

-- a number by its parts: w digits, a point (x) and more digits up to e or not, an exponent of k digits or not, an `s` (z) or not, up to n
pub record Parts (t : List ℕ) (w : ℕ) (x : Bool) (e k : ℕ) (z : Bool) (n : ℕ) : Type 0 where
  pub whole : w ≡ run is_digit t
  pub point : x ≡ point_at t w
  pub end : e ≡ past_fraction x t w
  pub power : k ≡ power_size t e
  pub suffix : z ≡ suffix_at t (past_power t e k)
  pub next : n ≡ past_suffix z (past_power t e k)

module _ {t : List ℕ} {w : ℕ} {x : Bool} {e k : ℕ} {z : Bool} {n : ℕ} (p : Parts t w x e k z n) where
  number_is : number_at t ≡ number_by t w x e (power_at t e) z n
  unfolding number_at
  number_is = rw (sym p.whole, sym p.point, sym p.end, sym p.power, sym p.suffix, sym p.next)

  some : is_power (power_at t e) ≡ ltb 0 k
  some = power_some t e k p.power

  pub number-clings : clings t (not ((x || ltb 0 k) || z)) n ≡ true → number_at t ≡ bad BadForm
  unfolding number_by
  number-clings h = number_is ∙ (rw (some, h))

  -- "Both: 2"
  pub number-long : clings t (not ((x || ltb 0 k) || z)) n ≡ false → (ltb 40 w || ltb 40 (places_of x w e)) ≡ true
      → number_at t ≡ bad TooManyDigits
  unfolding number_by
  number-long h g = number_is ∙ (rw (some, h, g))

  -- the same number, by the text alone
  pub written_is : written_at t ≡ written_by t w x e (power_at t e) z
  unfolding written_at
  written_is = rw (sym p.whole, sym p.point, sym p.end, sym p.power, sym p.suffix)

  places_is : places_at t ≡ places_of x w e
  unfolding places_at
  places_is = rw (sym p.whole, sym p.point, sym p.end)

  pub number-written : (q : ℕ) → clings t (not ((x || ltb 0 k) || z)) n ≡ false → w ≤ 40 → q ≡ places_of x w e → q ≤ 40
      → number_at t ≡ piece (number (written_at t)) n
  unfolding number_by
  number-written q h a g b = number_is ∙ (rw (some, h, sym g, le-ltb 40 w a, le-ltb 40 q b, sym written_is))

  pub number_digits : (q : ℕ) → w ≤ 40 → q ≡ places_of x w e → q ≤ 40 → Digits t
  number_digits q a g b = record { whole = omega (arith, p.whole); places = rw (places_is, sym g) b }

  pub digits_few : (q : ℕ) → q ≡ places_of x w e → Digits t → q ≤ 40
  digits_few q g d = rw (places_is, sym g) at d.places

  -- with no exponent
  pub written_parts : (v q : ℕ) → k ≡ 0 → q ≡ places_of x w e → v ≡ decimal (decimal 0 (take w t)) (part t (suc w) q)
      → record { digits = v; places = q; point = x; exponent = false; suffix = z } ≡ written_at t
  unfolding written_by
  written_parts v q f g d = sym (written_is ∙ (rw (power_none t e (sym p.power ∙ f), sym g, sym d, or_false x)))

  -- what a long one says of itself
  pub written_point : (written_at t).point ≡ (x || ltb 0 k)
  unfolding written_by
  written_point = rw (written_is, some)

  pub written_suffix : (written_at t).suffix ≡ z
  unfolding written_by
  written_suffix = rw written_is

  -- with neither it is its digits before the point
  pub written-whole : x ≡ false → k ≡ 0 → (written_at t).digits ≡ decimal 0 (take w t)
  unfolding written_by places_of decimal
  written-whole f g = rw (written_is, power_none t e (sym p.power ∙ g), f)

  pub written-plain : (written_at t).point ≡ false → (written_at t).digits ≡ decimal 0 (part t 0 w)
  written-plain h =
      let a = both_false x (ltb 0 k) (sym written_point ∙ h) in
      written-whole a.0 (let y = ltb-false 0 k a.1 in omega arith)

  -- multiplied out
  pub written_up : eqb (get_or t (suc e) 0) 45 ≡ false → (q : ℕ) → q ≡ places_of x w e → (u : ℕ) → u ≡ decimal 0 (part t (power_from t e) k)
      → ((written_at t).digits ≡ decimal (decimal 0 (part t 0 w)) (part t (e - q) q) * 10 ^ u) × ((written_at t).places ≡ q + 0)
  unfolding written_by
  written_up h q g u f =
      let y = power_up t e k (decimal (decimal 0 (take w t)) (part t (suc w) q)) q p.power h in
      rw (written_is, sym g, fraction_is t w e q x p.end g, f) y

  pub written_down : eqb (get_or t (suc e) 0) 45 ≡ true → (q : ℕ) → q ≡ places_of x w e → (u : ℕ) → u ≡ decimal 0 (part t (power_from t e) k)
      → ((written_at t).digits ≡ decimal (decimal 0 (part t 0 w)) (part t (e - q) q) * 10 ^ 0) × ((written_at t).places ≡ q + u)
  unfolding written_by
  written_down h q g u f =
      let y = power_down t e k (decimal (decimal 0 (take w t)) (part t (suc w) q)) q p.power h in
      rw (written_is, sym g, fraction_is t w e q x p.end g, f) y

-- the digit limits bound the place where they end
fraction_few : (t : List ℕ) (w : ℕ) (x : Bool) → places_of x w (past_fraction x t w) ≤ 40 → past_fraction x t w ≤ w + 41
unfolding past_fraction places_of
fraction_few t w true h = omega arith
fraction_few t w false h = omega arith

pub digits_soon : (t : List ℕ) (w : ℕ) (x : Bool) → w ≡ run is_digit t → x ≡ point_at t w → Digits t → past_fraction x t w ≤ 81
unfolding places_at
digits_soon t w x a b d = omega (arith, fraction_few t w x (rw (sym a, sym b) at d.places), d.whole)

-- ---- the first byte decides

pub lex_is : (t : List ℕ) (a b c d : Bool) → is_letter (get_or t 0 0) ≡ a
    → is_digit (get_or t 0 0) ≡ b → eqb (get_or t 0 0) 34 ≡ c
    → among ":;,=>.+-%([{)]}" (get_or t 0 0) ≡ d
    → lexeme t ≡ cond a (name_at t) (cond b (number_at t) (cond c (quoted_at t) (cond d (piece (mark (get_or t 0 0)) 1) (bad BadForm))))
unfolding lexeme
lex_is t a b c d h g k l = rw (h, g, k, l)
