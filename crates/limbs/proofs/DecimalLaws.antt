-- Powers of ten among limbs: bounds of reading and scaling.
use mathlib.Core.Path.{◌≡◌, refl, sym, ap, ◌∙◌}
use mathlib.Core.List.{List, [], ◌∷◌}
use Prim.Native.Nat.{ℕ, zero, suc, ◌+◌, ◌-◌, ◌*◌, ◌^◌, ◌≤◌, ◌<◌}
use native.Mathlib.Nat.{le_trans, le_of_eq, lt_of_lt_of_le, lt_of_le_of_lt, mul-lt-mul_of_pos_right, mul_assoc}
use native.Mathlib.Nat.{mul-le-mul, mul-le-mul_left, mul-le-mul_right, mul_right_comm, pow-le-pow_right, pow-suc}
use native.Mathlib.Nat.{pow-succ', zero-mul, suc-mul, add-zero, mul-one, one-mul, add-mul, one-le-pow}
use native.Mathlib.Numerals.{add-one}
use native.Mathlib.Omega.{arith}
use lib.Dec.{lit<, lit≤}
use lib.ListN.{length, take, drop}
use lib.Seq.{length-take-le}
use lib.Pow.{pow-add}
use Rattle.text.specs.Bytes.{decimal}

pub carried_none : (v r p w : ℕ) → v + r * p ≡ w → w < p → v ≡ w
carried_none v zero p w e h = sym (add-zero v) ∙ ap (λ (z : ℕ). v + z) (sym (zero-mul p)) ∙ e
carried_none v (suc r) p w e h = absurd (no v (r * p) p w (ap (λ (z : ℕ). v + z) (sym (suc-mul r p)) ∙ e) h)
  where
    no : (v x p w : ℕ) → v + (x + p) ≡ w → w < p → ⊥
    no v x p w e h = omega arith

-- b^i times, and b^s times more
pub scale_next : (b v a i s : ℕ) → v ≡ a * b ^ i → v * b ^ s ≡ a * b ^ (i + s)
scale_next b v a i s e = ap (λ (z : ℕ). z * b ^ s) e ∙ mul_assoc a (b ^ i) (b ^ s) ∙ ap (λ (z : ℕ). a * z) (sym (pow-add b i s))

pub scale_below : (b v a i s n p : ℕ) → 0 < b → v ≡ a * b ^ i → i + s ≤ n → a * b ^ n < p → v * b ^ s + 0 < p
scale_below b v a i s n p B e h l =
    lt_of_le_of_lt (le_of_eq (add-zero (v * b ^ s) ∙ scale_next b v a i s e))
    (lt_of_le_of_lt (mul-le-mul_left a (pow-le-pow_right {n = b} B h)) l)

-- ---- digits, s at a time

-- x in front of y, and digits behind both
decimal-split : (x y : ℕ) (l : List ℕ) → decimal (x + y) l ≡ x * 10 ^ length l + decimal y l
unfolding decimal
decimal-split x y [] = ap (λ (z : ℕ). z + y) (sym (mul-one x))
decimal-split x y (b ∷ l) =
    ap (λ (z : ℕ). decimal z l) (sum x y (b - 48)) ∙ decimal-split (x * 10) (y * 10 + (b - 48)) l
    ∙ ap (λ (z : ℕ). z + decimal (y * 10 + (b - 48)) l)
    (mul_assoc x 10 (10 ^ length l) ∙ ap (λ (z : ℕ). x * z) (sym (pow-succ' 10 (length l))))
  where
    sum : (x y d : ℕ) → (x + y) * 10 + d ≡ x * 10 + (y * 10 + d)
    sum x y d = omega arith

decimal-run : (s v : ℕ) (l : List ℕ) → s ≤ length l → decimal v l ≡ decimal (decimal v (take s l)) (drop s l)
unfolding decimal
decimal-run zero v l h = refl
decimal-run (suc s) v [] h = absurd (omega arith)
decimal-run (suc s) v (b ∷ l) h = decimal-run s (v * 10 + (b - 48)) l (omega arith)

digits_behind : (s v : ℕ) (l : List ℕ) → s ≤ length l → decimal v (take s l) ≡ v * 10 ^ s + decimal 0 (take s l)
digits_behind s v l h =
    ap (λ (z : ℕ). decimal z (take s l)) (sym (add-zero v)) ∙ decimal-split v 0 (take s l)
    ∙ ap (λ (z : ℕ). v * 10 ^ z + decimal 0 (take s l)) (length-take-le s l h)

-- the first s digits, r, behind v
pub read_next : (l : List ℕ) (s v r : ℕ) → s ≤ length l → r ≡ decimal 0 (take s l) → decimal (v * 10 ^ s + r) (drop s l) ≡ decimal v l
read_next l s v r h e =
    ap (λ (z : ℕ). decimal (v * 10 ^ s + z) (drop s l)) e
    ∙ ap (λ (z : ℕ). decimal z (drop s l)) (sym (digits_behind s v l h))
    ∙ sym (decimal-run s v l h)

-- so many digits still fit
pub read_room : (v r s k p : ℕ) → r < 10 ^ s → (v + 1) * 10 ^ (s + k) ≤ p → (v * 10 ^ s + r + 1) * 10 ^ k ≤ p
read_room v r s k p h g =
    le_trans (mul-le-mul_right (10 ^ k) (le_trans (more (v * 10 ^ s) r (10 ^ s) h) (le_of_eq one_more)))
    (le_trans (le_of_eq (mul_assoc (v + 1) (10 ^ s) (10 ^ k) ∙ ap (λ (z : ℕ). (v + 1) * z) (sym (pow-add 10 s k)))) g)
  where
    more : (x r q : ℕ) → r < q → x + r + 1 ≤ x + q
    more x r q h = omega arith

    one_more : v * 10 ^ s + 10 ^ s ≡ (v + 1) * 10 ^ s
    one_more = ap (λ (z : ℕ). v * 10 ^ s + z) (sym (one-mul (10 ^ s))) ∙ sym (add-mul v 1 (10 ^ s))

pub read_fits : (w k p : ℕ) → (w + 1) * 10 ^ k ≤ p → w < p
read_fits w k p h =
    le_trans (le_of_eq (sym (add-one w) ∙ sym (mul-one (w + 1)))) (le_trans (mul-le-mul_left (w + 1) (one-le-pow k 10 (lit< tt))) h)

-- ---- limbs enough

nines : (r : ℕ) → 0 < r → 10 ^ (r * 9) * 4 ≤ 4294967296 ^ r
nines zero h = absurd (omega arith)
nines (suc zero) h = lit≤ tt
nines (suc (suc r)) h =
    let n = suc r in
    le_trans (le_of_eq
    (ap (λ (z : ℕ). z * 4) (ap (λ (z : ℕ). 10 ^ z) (suc-mul n 9) ∙ pow-add 10 (n * 9) 9) ∙ mul_right_comm (10 ^ (n * 9)) (10 ^ 9) 4))
    (le_trans (mul-le-mul (nines (suc r) (omega arith)) (lit≤ {m = 10 ^ 9} {n = 4294967296} tt)) (le_of_eq (sym (pow-suc 4294967296 n))))

-- r limbs hold four times a number of fewer than 9 * r digits
pub enough : (x r : ℕ) → x < r * 9 → 10 ^ x * 4 ≤ 4294967296 ^ r
enough x r h = le_trans (mul-le-mul_right 4 (pow-le-pow_right {n = 10} (lit< tt) (lower x (r * 9) h))) (nines r (some x r h))
  where
    lower : (x y : ℕ) → x < y → x ≤ y
    lower x y h = omega arith

    some : (x r : ℕ) → x < r * 9 → 0 < r
    some x r h = omega arith

-- ---- room for digits and powers: four times 10^(w + q + u) is at most p

powers_fit : (x y p : ℕ) → x ≤ y → 10 ^ y * 4 ≤ p → 10 ^ x * 4 ≤ p
powers_fit x y p h l = le_trans (mul-le-mul_right 4 (pow-le-pow_right {n = 10} (lit< tt) h)) l

quarter : (x p : ℕ) → x * 4 ≤ p → x ≤ p
quarter x p h = omega arith

pub first_room : (v w k p : ℕ) → v ≡ 0 → 10 ^ (w + k) * 4 ≤ p → (v + 1) * 10 ^ w ≤ p
first_room v w k p e h =
    le_trans (le_of_eq (ap (λ (z : ℕ). (z + 1) * 10 ^ w) e ∙ one-mul (10 ^ w))) (quarter (10 ^ w) p (powers_fit w (w + k) p (more w k) h))
  where
    more : (w k : ℕ) → w ≤ w + k
    more w k = omega arith

pub next_room : (v w q u p : ℕ) → v < 10 ^ w → 10 ^ (w + q + u) * 4 ≤ p → (v + 1) * 10 ^ q ≤ p
next_room v w q u p h l =
    le_trans (mul-le-mul_right (10 ^ q) (le_trans (le_of_eq (add-one v)) h))
    (le_trans (le_of_eq (sym (pow-add 10 w q))) (quarter (10 ^ (w + q)) p (powers_fit (w + q) (w + q + u) p (more (w + q) u) l)))
  where
    more : (x u : ℕ) → x ≤ x + u
    more x u = omega arith

pub product_below : (v x u p : ℕ) → v < 10 ^ x → 10 ^ (x + u) * 4 ≤ p → v * 10 ^ u * 4 < p
product_below v x u p h l =
    lt_of_lt_of_le (mul-lt-mul_of_pos_right (mul-lt-mul_of_pos_right h (one-le-pow u 10 (lit< tt))) (lit< tt))
    (le_trans (le_of_eq (ap (λ (z : ℕ). z * 4) (sym (pow-add 10 x u)))) l)

pub product_room : (v m p : ℕ) → v * m < p → 0 < m → v < p
product_room v zero p h l = absurd (omega arith)
product_room v (suc m) p h l = lt_of_le_of_lt (le_trans (le_of_eq (sym (mul-one v))) (mul-le-mul_left v l)) h

pub twice_room : (n p : ℕ) → 10 ^ n * 4 ≤ p → 10 ^ n * 2 < p
twice_room n p h = go (10 ^ n) p (one-le-pow n 10 (lit< tt)) h
  where
    go : (x p : ℕ) → 1 ≤ x → x * 4 ≤ p → x * 2 < p
    go x p h l = omega arith
