-- How far two signed fractions lie apart, as a whole number over their common denominator, and the f32 difference of two floats by it.
use mathlib.Core.Path.{◌≡◌, refl, sym, ap, ◌∙◌, subst}
use Prim.Native.Nat.{ℕ, zero, suc, ◌+◌, ◌-◌, ◌*◌, ◌/◌, ◌^◌, ◌≤◌, ◌<◌}
use native.Mathlib.Nat.{le_of_eq, mul_comm, mul_assoc, mul_right_comm, mul-le-mul_right, add-mul, mul-sub, mul-pos}
use native.Mathlib.Omega.{arith}
use mathlib.Core.Bool.{Bool, true, false, not, ◌&&◌, ◌||◌, beq, cond}
use borrow.Author.Tests.{lt-ltb, le-ltb}
use lib.IntN.{negsuc}
use lib.Dec.{T, ltb, eqb, ltb→lt, nltb→le, eqb→eq}
use lib.Pow.{pow_pos}
use lib.Ieee.{Float, nan, inf, fin, binary32, up, down, size, odd, units, round, sum, sub, lt, le}
use lib.Ieee.Fits.{round_is, down_pos, and_r}
use lib.Ieee.Exact.{HasValue}
use lib.Ieee.Nearest.{closest}
use lib.Ieee.Order.{round_mono}
use lib.Ieee.Scale.{round_same}
use Rattle.number.proofs.Error.{Near}
use Rattle.number.specs.Exact.{gap}
use Rattle.number.specs.Time as Time
use Rattle.number.specs.Time.{near}

-- 2 ^ -23
abbrev pub epsilon : Float
epsilon = fin false 1 (negsuc 22)

sub_mul : (a b c : ℕ) → (a - b) * c ≡ a * c - b * c
sub_mul a b c = mul_comm (a - b) c ∙ mul-sub c a b ∙ ap (λ (x : ℕ). x - c * b) (mul_comm c a) ∙ ap (λ (x : ℕ). a * c - x) (mul_comm c b)

pub gap_scale : (s t : Bool) (a b c : ℕ) → gap s (a * c) t (b * c) ≡ gap s a t b * c
gap_scale s t a b c = go (beq s t)
  where
    go : (e : Bool) → cond e (a * c - b * c + (b * c - a * c)) (a * c + b * c) ≡ cond e (a - b + (b - a)) (a + b) * c
    go true =
        sym
        (add-mul (a - b) (b - a) c ∙ ap (λ (x : ℕ). x + (b - a) * c) (sub_mul a b c) ∙ ap (λ (x : ℕ). a * c - b * c + x) (sub_mul b a c))
    go false = sym (add-mul a b c)

-- what is near ±a' and ±b' is as far apart, up to the sum of the two errors
pub gap-near : (s t : Bool) (a a' b b' e f : ℕ) → Near a a' e → Near b b' f → Near (gap s a t b) (gap s a' t b') (e + f)
gap-near s t a a' b b' e f (p, q) (u, v) = go (beq s t)
  where
    go : (w : Bool) → Near (cond w (a - b + (b - a)) (a + b)) (cond w (a' - b' + (b' - a')) (a' + b')) (e + f)
    go true = (omega arith, omega arith)
    go false = (omega arith, omega arith)

-- ---- without its sign a rounded fraction is the fraction rounded without a sign
size_odd : (d : ℕ) (s : Bool) (q k l : ℕ) → Time.size (odd d s q k l) ≡ odd d false q k l
unfolding odd
size_odd d s zero k l = refl
size_odd d s (suc q) k l = refl

size_units : (s : Bool) (q k : ℕ) → Time.size (units binary32 s q k) ≡ units binary32 false q k
unfolding units
size_units s q k = go (ltb (q * 2 ^ k) (2 ^ 277))
  where
    go : (b : Bool) → Time.size (cond b (odd 25 s q k 149) (inf s)) ≡ cond b (odd 25 false q k 149) (inf false)
    go true = size_odd 25 s q k 149
    go false = refl

pub size_round : (s : Bool) (a c : ℕ) → Time.size (round binary32 s a c) ≡ round binary32 false a c
size_round s a c =
    let n = a * 2 ^ 149 in
    let k = size (n / c) - 24 in
    ap Time.size (round_is binary32 s a c) ∙ size_units s (closest n (c * 2 ^ k)) k ∙ sym (round_is binary32 false a c)

-- ---- the size of a difference
apart : (x y : Bool) (a b c : ℕ)
    → Time.size (cond (ltb a b) (round binary32 x (b - a) c) (round binary32 y (a - b) c)) ≡ round binary32 false (a - b + (b - a)) c
apart x y a b c = go (ltb a b) (ltb→lt a b) (nltb→le a b)
  where
    left : (a b : ℕ) → a < b → b - a ≡ a - b + (b - a)
    left a b h = omega arith

    right : (a b : ℕ) → b ≤ a → a - b ≡ a - b + (b - a)
    right a b h = omega arith

    go : (w : Bool) → (T w → a < b) → (T (not w) → b ≤ a)
        → Time.size (cond w (round binary32 x (b - a) c) (round binary32 y (a - b) c)) ≡ round binary32 false (a - b + (b - a)) c
    go true h k = size_round x (b - a) c ∙ ap (λ (z : ℕ). round binary32 false z c) (left a b (h tt))
    go false h k = size_round y (a - b) c ∙ ap (λ (z : ℕ). round binary32 false z c) (right a b (k tt))

sum-size : (s t : Bool) (a b c : ℕ) → Time.size (sum binary32 s a (not t) b c) ≡ round binary32 false (gap s a t b) c
unfolding sum
sum-size true true a b c = apart false (true && ltb b a) a b c
sum-size false false a b c = apart true (false && ltb b a) a b c
sum-size true false a b c = size_round true (a + b) c
sum-size false true a b c = size_round false (a + b) c

-- x and y are ±a / c and ±b / c
common : (m : ℕ) (u de dd a c : ℕ) → m * u * c ≡ a * de → m * u * dd * c ≡ a * (de * dd)
common m u de dd a c h = mul_right_comm (m * u) dd c ∙ ap (λ (z : ℕ). z * dd) h ∙ mul_assoc a de dd

pub sub_gap : (x y : Float) (s t : Bool) (a b c : ℕ) → 0 < c → HasValue x s a c
    → HasValue y t b c
    → Time.size (sub binary32 x y) ≡ round binary32 false (gap s a t b) c
unfolding sub
sub_gap nan y s t a b c C v w = absurd v
sub_gap (inf p) y s t a b c C v w = absurd v
sub_gap (fin p m e) nan s t a b c C v w = absurd w
sub_gap (fin p m e) (inf q) s t a b c C v w = absurd w
sub_gap (fin p m e) (fin q n d) s t a b c C v w =
    let A = m * up e * down d in
    let B = n * up d * down e in
    let D = down e * down d in
    sum-size p q A B D
    ∙ round_same binary32 false (gap p A q B) D (gap p a q b) c (mul-pos (down_pos e) (down_pos d)) C
    (sym (gap_scale p q A B c)
    ∙ ap (λ (z : ℕ). gap p z q (B * c)) (common m (up e) (down e) (down d) a c v.1)
    ∙ ap (λ (z : ℕ). gap p (a * D) q z) (common n (up d) (down d) (down e) b c w.1 ∙ ap (λ (z : ℕ). b * z) (mul_comm (down d) (down e)))
    ∙ gap_scale p q a b D)
    ∙ ap (λ (z : Bool). round binary32 false (gap z a q b) c) v.0
    ∙ ap (λ (z : Bool). round binary32 false (gap s a z b) c) w.0

-- ---- 2 ^ -23 and the size of a difference
pub or_le : (x y : ℕ) (z : Bool) → T (ltb x y || (eqb x y && z)) → x ≤ y
or_le x y z t = go (ltb x y) (eqb x y) (ltb→lt x y) (eqb→eq x y) t
  where
    lt-le : x < y → x ≤ y
    lt-le h = omega arith

    go : (p q : Bool) → (T p → x < y) → (T q → x ≡ y) → T (p || (q && z)) → x ≤ y
    go true q h k t = lt-le (h tt)
    go false true h k t = le_of_eq (k tt)
    go false false h k t = absurd t

-- from 2 ^ -23 on
far : (d : Float) → T (le epsilon d) → lt d epsilon ≡ false
unfolding le
far nan t = absurd t
far (inf true) t = absurd t
far (inf false) t = unfold lt in refl
far (fin true m e) t =
    absurd (no (down e) (down_pos e) (eqb→eq (1 * down e) 0 (and_r (eqb (1 * down e) (m * up e * 8388608)) (eqb (1 * down e) 0) t)))
  where
    no : (y : ℕ) → 0 < y → 1 * y ≡ 0 → ⊥
    no y h q = omega arith
far (fin false m e) t = unfold lt in le-ltb (m * up e * 8388608) (1 * down e) (or_le (1 * down e) (m * up e * 8388608) true t)

-- up to 3 * 2 ^ -25
close : (d : Float) → T (le d (fin false 3 (negsuc 24))) → lt d epsilon ≡ true
unfolding le
close nan t = absurd t
close (inf true) t = unfold lt in refl
close (inf false) t = absurd t
close (fin true m e) t = unfold lt in lt-ltb 0 (m * up e * 8388608 + 1 * down e) (some (m * up e * 8388608) (down e) (down_pos e))
  where
    some : (x y : ℕ) → 0 < y → 0 < x + 1 * y
    some x y h = omega arith
close (fin false m e) t =
    unfold lt in lt-ltb (m * up e * 8388608) (1 * down e)
    (less (m * up e) (down e) (down_pos e) (or_le (m * up e * 33554432) (3 * down e) true t))
  where
    less : (x y : ℕ) → 0 < y → x * 33554432 ≤ 3 * y → x * 8388608 < 1 * y
    less x y h k = omega arith

epsilon_is : round binary32 false 1 (2 ^ 23) ≡ epsilon
unfolding round
epsilon_is = refl

three_is : round binary32 false 3 (2 ^ 25) ≡ fin false 3 (negsuc 24)
unfolding round
three_is = refl

-- ---- when two values in units of 2 ^ -149 are duplicates
module _ (x y : Float) (s t : Bool) (a b : ℕ) (v : HasValue x s a (2 ^ 149)) (w : HasValue y t b (2 ^ 149)) where
  near_is : near x y ≡ lt (round binary32 false (gap s a t b) (2 ^ 149)) epsilon
  unfolding near
  near_is = ap (λ (z : Float). lt z epsilon) (sub_gap x y s t a b (2 ^ 149) (pow_pos 149) v w)

  pub near_far : 2 ^ 126 ≤ gap s a t b → near x y ≡ false
  near_far h =
      near_is
      ∙ far (round binary32 false (gap s a t b) (2 ^ 149))
      (subst (λ (z : Float). T (le z (round binary32 false (gap s a t b) (2 ^ 149)))) epsilon_is
      (round_mono binary32 1 (2 ^ 23) (gap s a t b) (2 ^ 149) (pow_pos 23) (pow_pos 149) (mul-le-mul_right (2 ^ 23) h)))

  pub near_close : gap s a t b ≤ 3 * 2 ^ 124 → near x y ≡ true
  near_close h =
      near_is
      ∙ close (round binary32 false (gap s a t b) (2 ^ 149))
      (subst (λ (z : Float). T (le (round binary32 false (gap s a t b) (2 ^ 149)) z)) three_is
      (round_mono binary32 (gap s a t b) (2 ^ 149) 3 (2 ^ 25) (pow_pos 149) (pow_pos 25) (mul-le-mul_right (2 ^ 25) h)))
