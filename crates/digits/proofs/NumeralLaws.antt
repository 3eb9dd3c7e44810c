-- Written numbers as parts: every number that can be written is one, with no more digits than it is written with.
use Prim.Native.Nat.{ℕ, zero, suc, ◌+◌, ◌-◌, ◌*◌, ◌/◌, ◌^◌, ◌≤◌, ◌<◌}
use mathlib.Core.Bool.{Bool, true, false, ◌&&◌}
use mathlib.Core.List.{List, [], ◌∷◌}
use mathlib.Core.Path.{◌≡◌, refl, sym, ap, ◌∙◌, subst}
use native.Mathlib.Nat.{one-le-pow, pow-le-pow_right, mul_left_comm, pow-succ', mul_assoc, mul_comm, mul-one, one-mul, mul-le-mul_right}
use native.Mathlib.Nat.{div-eq_of_lt-le, mul-div-mul_right, div-lt_iff_lt-mul}
use native.Mathlib.Nat.{lt_of_lt_of_le, le_trans, le_of_eq, le_of_mul-le-mul_right, mul-pos}
use native.Mathlib.Omega.{arith}
use lib.Dec.{eqb, lit<}
use lib.ListN.{length}
use lib.Pow.{pow-add}
use lib.Ieee.{binary32}
use lib.Ieee.Scale.{round_same}
use Rattle.text.specs.Bytes.{decimal, is_digit}
use Rattle.text.proofs.ByteLaws.{within_is}
use Rattle.number.specs.Number.{Written, nearest, bits}
use Rattle.digits.specs.Numeral.{all, Numeral, written}
use Rattle.digits.specs.Means.{bits_of, long}
use Rattle.digits.specs.Fewest.{last_digits, whole_digits, trimmed, spelled, numeral, count, reads, limit}
use Rattle.digits.proofs.DigitLaws.{last-length, last_digits_lem, last-reads, whole-reads}
use Rattle.digits.proofs.DigitLaws.{whole_digits_lem, whole_some, whole_few, whole_lt, trim}

-- ---- what digits read as

pub both : (x y : Bool) → (x && y) ≡ true → (x ≡ true) × (y ≡ true)
both true y h = (refl, h)
both false y h = absurd (let z : ◌≡◌ {A = ℕ} 0 1 = cc in omega arith)

-- l behind a: from a * 10 ^ length l on, and below (a + 1) * 10 ^ length l
module _ (a d x : ℕ) where
  from_below : d < 10 → a * (10 * x) ≤ (a * 10 + d) * x
  from_below h = omega arith

  from_above : d < 10 → (a * 10 + d + 1) * x ≤ (a + 1) * (10 * x)
  from_above h = le_trans (mul-le-mul_right x (small h)) (le_of_eq (mul_assoc (a + 1) 10 x))
    where
      small : d < 10 → a * 10 + d + 1 ≤ (a + 1) * 10
      small h = omega arith

pub decimal_between : (a : ℕ) (l : List ℕ) → all is_digit l ≡ true
    → (a * 10 ^ length l ≤ decimal a l) × (decimal a l < (a + 1) * 10 ^ length l)
unfolding decimal all
decimal_between a [] h = (le_of_eq (mul-one a), omega arith)
decimal_between a (b ∷ l) h =
    let e = both (is_digit b) (all is_digit l) h in
    let i = within_is 48 57 b e.0 in
    let r = decimal_between (a * 10 + (b - 48)) l e.1 in
    let s = pow-succ' 10 (length l) in
    let d : b - 48 < 10 = omega arith in (
      le_trans (le_of_eq (ap (λ (x : ℕ). a * x) s)) (le_trans (from_below a (b - 48) (10 ^ length l) d) r.0),
      lt_of_lt_of_le r.1 (le_trans (from_above a (b - 48) (10 ^ length l) d) (le_of_eq (ap (λ (x : ℕ). (a + 1) * x) (sym s)))),
    )

-- the digits before a point alone
pub whole_part : (a : ℕ) (l : List ℕ) → all is_digit l ≡ true → decimal a l / 10 ^ length l ≡ a
whole_part a l h = let r = decimal_between a l h in div-eq_of_lt-le (10 ^ length l) r.0 r.1

pub whole_below : (l : List ℕ) → all is_digit l ≡ true → decimal 0 l < 10 ^ length l
whole_below l h = subst (λ (x : ℕ). decimal 0 l < x) (one-mul (10 ^ length l)) (decimal_between 0 l h).1

-- ---- n over 10 ^ p is m parts

pub record Same (n p m : ℕ) : Type 0 where
  pub rest : ℕ
  pub sums : p + rest ≡ 40
  pub value : n * 10 ^ rest ≡ m

pub ten_pos : (k : ℕ) → 0 < 10 ^ k
ten_pos k = one-le-pow k 10 (lit< tt)

module _ {n p m : ℕ} (s : Same n p m) where
  split : 10 ^ p * 10 ^ s.rest ≡ 10 ^ 40
  split = sym (pow-add 10 p s.rest) ∙ ap (λ (x : ℕ). 10 ^ x) s.sums

  pub same_whole : n / 10 ^ p ≡ m / 10 ^ 40
  same_whole =
      sym (mul-div-mul_right n (10 ^ p) (ten_pos s.rest))
      ∙ ap (λ (x : ℕ). x / (10 ^ p * 10 ^ s.rest)) s.value
      ∙ ap (λ (x : ℕ). m / x) split

  pub same_bits : bits_of n (10 ^ p) ≡ bits_of m (10 ^ 40)
  unfolding bits_of
  same_bits =
      ap bits (round_same binary32 false n (10 ^ p) m (10 ^ 40) (ten_pos p) (ten_pos 40)
      (ap (λ (x : ℕ). n * x) (sym split) ∙ mul_left_comm n (10 ^ p) (10 ^ s.rest) ∙ mul_comm (10 ^ p) (n * 10 ^ s.rest)
      ∙ ap (λ (x : ℕ). x * 10 ^ p) s.value))

  pub same-below : n / 10 ^ p < 10 ^ 40 → m < limit
  unfolding limit
  same-below h = (div-lt_iff_lt-mul {k = 10 ^ 40} {y = 10 ^ 40} (lit< tt)).0 (subst (λ (x : ℕ). x < 10 ^ 40) same_whole h)

  pub same_low : p ≤ 40
  same_low = omega (arith, s.sums)

pub trim_same : (m : ℕ) → Same (trimmed 40 m).0 (trimmed 40 m).1 m
trim_same m = let t = trim 40 m in record { rest = t.cut; sums = t.sums; value = t.value }

pub whole-limit : (m : ℕ) → m < limit → m / 10 ^ 40 < 10 ^ 40
unfolding limit
whole-limit m h = (div-lt_iff_lt-mul {k = 10 ^ 40} {y = 10 ^ 40} (lit< tt)).1 h

-- ---- n over 10 ^ p, spelled

nearest-bits : (v : Written) → bits (nearest false v) ≡ bits_of v.digits (10 ^ v.places)
unfolding nearest bits_of
nearest-bits v = refl

module _ (n p : ℕ) where
  pub spelled_digits : (written (spelled (n, p))).digits ≡ n
  spelled_digits = ap (λ (x : ℕ). decimal x (last_digits p n)) (whole-reads 39 (n / 10 ^ p)) ∙ last-reads p n

  pub spelled_places : (written (spelled (n, p))).places ≡ p
  spelled_places = last-length p n

  pub spelled-numeral : p ≤ 40 → n / 10 ^ p < 10 ^ 40 → Numeral (spelled (n, p))
  spelled-numeral h l = record {
    whole = whole_digits_lem 39 (n / 10 ^ p) l;
    part = last_digits_lem p n;
    some = whole_some 39 (n / 10 ^ p);
    few = whole_few 39 (n / 10 ^ p) 39 l;
    short = le_trans (le_of_eq (last-length p n)) h;
  }

  pub spelled-bits : bits (nearest false (written (spelled (n, p)))) ≡ bits_of n (10 ^ p)
  spelled-bits =
      nearest-bits (written (spelled (n, p))) ∙ ap (λ (x : ℕ). bits_of x (10 ^ length (last_digits p n))) spelled_digits
      ∙ ap (λ (x : ℕ). bits_of n (10 ^ x)) spelled_places

-- ---- m parts

pub numeral-fits : (m : ℕ) → m < limit → Numeral (numeral m)
numeral-fits m h =
    let s = trim_same m in
    spelled-numeral (trimmed 40 m).0 (trimmed 40 m).1 (same_low s) (subst (λ (x : ℕ). x < 10 ^ 40) (sym (same_whole s)) (whole-limit m h))

pub numeral-same : (m : ℕ) → Same (written (numeral m)).digits (written (numeral m)).places m
numeral-same m =
    let n = (trimmed 40 m).0 in
    let p = (trimmed 40 m).1 in
    subst (λ (x : ℕ). Same x (written (numeral m)).places m) (sym (spelled_digits n p))
    (subst (λ (x : ℕ). Same n x m) (sym (spelled_places n p)) (trim_same m))

pub numeral-bits : (m : ℕ) → bits (nearest false (written (numeral m))) ≡ bits_of m (10 ^ 40)
numeral-bits m = spelled-bits (trimmed 40 m).0 (trimmed 40 m).1 ∙ same_bits (trim_same m)

pub reads_is : (b m : ℕ) → reads b m ≡ eqb (bits_of m (10 ^ 40)) b
unfolding reads
reads_is b m = ap (λ (x : ℕ). eqb x b) (numeral-bits m)

pub count_is : (m : ℕ) → count m ≡ length (whole_digits 39 (m / 10 ^ 40)) + (trimmed 40 m).1
unfolding count
count_is m =
    ap (λ (x : ℕ). length (whole_digits 39 x) + length (last_digits (trimmed 40 m).1 (trimmed 40 m).0)) (same_whole (trim_same m))
    ∙ ap (λ (x : ℕ). length (whole_digits 39 (m / 10 ^ 40)) + x) (last-length (trimmed 40 m).1 (trimmed 40 m).0)

pub count-below : (m : ℕ) → m < limit → count m < 81
count-below m h = omega (arith, count_is m, whole_few 39 (m / 10 ^ 40) 39 (whole-limit m h), (trim_same m).sums)

-- no more than n over 10 ^ p is written with
pub count_le : {n p m : ℕ} → Same n p m → count m ≤ length (whole_digits 39 (n / 10 ^ p)) + p
count_le {n} {p} {m} s =
    omega (arith, count_is m, ap (λ (x : ℕ). length (whole_digits 39 x)) (same_whole s), (trim 40 m).least n p s.rest s.sums s.value)

-- ---- a number as anyone writes it

pub record Parts (w : List ℕ × List ℕ) (m : ℕ) : Type 0 where
  pub same : Same (written w).digits (written w).places m
  pub below : m < limit
  pub fewer : count m ≤ length w.0 + length w.1
  pub bits : bits (nearest false (written w)) ≡ bits_of m (10 ^ 40)

pub digits_le : (x k : ℕ) → 0 < k → x < 10 ^ k → length (whole_digits 39 x) ≤ k
digits_le x zero h l = absurd (omega arith)
digits_le x (suc k) h l = whole_few 39 x k l

pub parts : (w : List ℕ × List ℕ) → Numeral w → (m : ℕ) × Parts w m
parts w u =
    let v = written w in
    let k = length w.1 in
    let a = decimal 0 w.0 in
    let e : v.digits / 10 ^ k ≡ a = whole_part a w.1 u.part in
    let l : a < 10 ^ length w.0 = whole_below w.0 u.whole in
    let s : Same v.digits k (v.digits * 10 ^ (40 - k)) = record { rest = 40 - k; sums = omega (arith, u.short); value = refl } in (
      v.digits * 10 ^ (40 - k),
      record {
        same = s;
        below = same-below s (subst (λ (x : ℕ). x < 10 ^ 40) (sym e) (lt_of_lt_of_le l (pow-le-pow_right {n = 10} (lit< tt) u.few)));
        fewer = omega (arith, count_le s, ap (λ (x : ℕ). length (whole_digits 39 x)) e, digits_le a (length w.0) u.some l);
        bits = nearest-bits v ∙ same_bits s;
      },
    )

-- ---- the order of two numbers is that of their parts

crossed : {n p m : ℕ} (j : ℕ) → Same n p m → n * 10 ^ j * 10 ^ 40 ≡ m * (10 ^ p * 10 ^ j)
crossed {n} {p} j s =
    ap (λ (x : ℕ). n * 10 ^ j * x) (sym (split s)) ∙ regroup n (10 ^ j) (10 ^ p) (10 ^ s.rest)
    ∙ ap (λ (x : ℕ). x * (10 ^ p * 10 ^ j)) s.value
  where
    regroup : (a b c d : ℕ) → a * b * (c * d) ≡ a * d * (c * b)
    regroup a b c d = simp (mul_assoc, mul_comm, mul_left_comm)

module _ {n p m v j k : ℕ} (s : Same n p m) (t : Same v j k) where
  across : v * 10 ^ p * 10 ^ 40 ≡ k * (10 ^ p * 10 ^ j)
  across = crossed p t ∙ ap (λ (x : ℕ). k * x) (mul_comm (10 ^ j) (10 ^ p))

  pub same-order : m ≤ k → n * 10 ^ j ≤ v * 10 ^ p
  same-order h =
      le_of_mul-le-mul_right
      (le_trans (le_of_eq (crossed j s)) (le_trans (mul-le-mul_right (10 ^ p * 10 ^ j) h) (le_of_eq (sym across)))) (ten_pos 40)

  pub order_same : n * 10 ^ j ≤ v * 10 ^ p → m ≤ k
  order_same h =
      le_of_mul-le-mul_right
      (le_trans (le_of_eq (sym (crossed j s))) (le_trans (mul-le-mul_right (10 ^ 40) h) (le_of_eq across)))
      (mul-pos (ten_pos p) (ten_pos j))

-- ---- how many digits n over 10 ^ p is written with

pub long_above : (n p : ℕ) → p < long n p
unfolding long
long_above n p = omega (arith, whole_some 39 (n / 10 ^ p))

-- n has as many digits, and no more than enough
pub long_lt : (n p : ℕ) → n / 10 ^ p < 10 ^ 40 → n < 10 ^ long n p
unfolding long
long_lt n p h =
    let k = length (whole_digits 39 (n / 10 ^ p)) in
    subst (λ (x : ℕ). n < x) (sym (pow-add 10 k p)) ((div-lt_iff_lt-mul (ten_pos p)).0 (whole_lt 39 (n / 10 ^ p) h))

pub long_le : (n p c : ℕ) → p < c → n < 10 ^ c → long n p ≤ c
unfolding long
long_le n p c h l =
    let e : suc (c - suc p) + p ≡ c = omega arith in
    let x : n / 10 ^ p < 10 ^ suc (c - suc p) = (div-lt_iff_lt-mul (ten_pos p)).1
    (subst (λ (x : ℕ). n < x) (ap (λ (x : ℕ). 10 ^ x) (sym e) ∙ pow-add 10 (suc (c - suc p)) p) l)
    in
    omega (arith, whole_few 39 (n / 10 ^ p) (c - suc p) x)

pub count_long : {n p m : ℕ} → Same n p m → count m ≤ long n p
unfolding long
count_long s = count_le s

pub count_trim : (m : ℕ) → count m ≡ long (trimmed 40 m).0 (trimmed 40 m).1
unfolding long count
count_trim m =
    ap (λ (x : ℕ). length (whole_digits 39 ((trimmed 40 m).0 / 10 ^ (trimmed 40 m).1)) + x) (last-length (trimmed 40 m).1 (trimmed 40 m).0)

-- of one number with more and with fewer places
pub long_same : {n p v j m : ℕ} → Same n p m → Same v j m → long n p + j ≡ long v j + p
unfolding long
long_same {n} {p} {v} {j} s t = let e = ap (λ (x : ℕ). length (whole_digits 39 x)) (same_whole s ∙ sym (same_whole t)) in omega arith
