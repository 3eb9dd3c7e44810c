-- What is rounded twice on its way to n / 100: it is n / 100 exactly if n / 100 is an f32, and it equals that.
use mathlib.Core.Path.{◌≡◌, refl, sym, ap, ◌∙◌, subst}
use Prim.Native.Nat.{ℕ, zero, suc, ◌+◌, ◌-◌, ◌*◌, ◌%◌, ◌^◌, ◌≤◌, ◌<◌, suc-le-suc}
use native.Mathlib.Nat.{lt_irrefl, lt_of_not-le, not-le_of_lt, mul-one, mul_assoc}
use native.Mathlib.Nat.{mul_right_comm, mul-pos, zero-mul, eq_of_mul-eq-mul_right}
use native.Mathlib.Omega.{arith}
use mathlib.Core.Bool.{Bool, true, false, not, ◌&&◌}
use lib.Dec.{T, T_not, leb, ltb, eqb, leb→le, ltb→lt, eqb→eq, lit<}
use lib.IntN.{ℤ, pos, negsuc}
use lib.Pow.{pow-add, pow-lt, shl_lt}
use lib.Ieee.{Float, nan, inf, fin, binary32, up, down, level, eq, ne, round, fits}
use lib.Ieee.Fits.{down_pos, eq→eqb, and_i, and_l, and_r}
use lib.Ieee.Exact.{HasValue, round_exact}
use Rattle.number.specs.Exact.{gap}
use Rattle.number.specs.Rounded.{fraction, rounded}
use Rattle.number.proofs.Exactly.{same_test, gap_same}
use Rattle.number.proofs.Round.{under}

pub twice : (b : Bool) → T (not (not b)) → T b
twice true t = t
twice false t = t

double : (b : Bool) → T b → T (not (not b))
double true t = t
double false t = t

-- ---- a gap that is none: of two numbers, the second above 0, the signs and the sizes are the same
no_sum : (x y : ℕ) → 0 < y → x + y ≡ 0 → ⊥
no_sum x y h e = omega arith

pub alike : (u s : Bool) (x y : ℕ) → 0 < y → T (eqb (gap u x s y) 0) → (u ≡ s) × (x ≡ y)
alike true true x y h t = (refl, eqb→eq x y (subst T (gap_same true x y) t))
alike false false x y h t = (refl, eqb→eq x y (subst T (gap_same false x y) t))
alike true false x y h t = absurd (no_sum x y h (eqb→eq (x + y) 0 t))
alike false true x y h t = absurd (no_sum x y h (eqb→eq (x + y) 0 t))

-- the comparison of floats asks the same
module _ (a b c d : ℕ) (forth : a ≡ b → c ≡ d) (back : c ≡ d → a ≡ b) (B : 0 < b) (D : 0 < d) where
  like : (s : Bool) → eqb (gap s a s b) 0 ≡ (eqb c d && true)
  like s =
      gap_same s a b
      ∙ same_test (eqb a b) (eqb c d && true) (λ t. and_i (eqb c d) true (eq→eqb (forth (eqb→eq a b t))) tt)
      (λ t. eq→eqb (back (eqb→eq c d (and_l (eqb c d) true t))))

  unlike : eqb (a + b) 0 ≡ (eqb c d && eqb c 0)
  unlike =
      same_test (eqb (a + b) 0) (eqb c d && eqb c 0) (λ t. absurd (no_sum a b B (eqb→eq (a + b) 0 t)))
      (λ t. absurd (no (eqb→eq c d (and_l (eqb c d) (eqb c 0) t)) (eqb→eq c 0 (and_r (eqb c d) (eqb c 0) t))))
    where
      no : c ≡ d → c ≡ 0 → ⊥
      no e z = omega arith

  tests : (t s : Bool) → eqb (gap t a s b) 0 ≡ level t c s d
  tests true true = like true
  tests false false = like false
  tests true false = unlike
  tests false true = unlike

-- ---- beside a g that is n / 100, an f is n / 100 if it equals g
module _ (s t u : Bool) (n m p : ℕ) (e d : ℤ) (N : 0 < n) (h : T (eqb (gap u (p * up d * 100) s (n * down d)) 0)) where
  meets_at : not (eqb (gap t (m * up e * 100) s (n * down e)) 0) ≡ not (level t (m * up e * down d) u (p * up d * down e))
  meets_at =
      let a = m * up e * 100 in
      let b = n * down e in
      let x = m * up e * down d in
      let y = p * up d * down e in
      ap not (tests a b x y (λ q. eq_of_mul-eq-mul_right 100 (lit< tt) x y (left ∙ ap (λ (z : ℕ). z * down d) q ∙ sym right))
      (λ q. eq_of_mul-eq-mul_right (down d) (down_pos d) a b (sym left ∙ ap (λ (z : ℕ). z * 100) q ∙ right)) B
      (above y (b * down d) right (mul-pos B (down_pos d))) t s)
      ∙ ap (λ (z : Bool). not (level t x z y)) (sym r.0)
    where
      r : (u ≡ s) × (p * up d * 100 ≡ n * down d)
      r = alike u s (p * up d * 100) (n * down d) (mul-pos N (down_pos d)) h

      B : 0 < n * down e
      B = mul-pos N (down_pos e)

      left : m * up e * down d * 100 ≡ m * up e * 100 * down d
      left = mul_right_comm (m * up e) (down d) 100

      right : p * up d * down e * 100 ≡ n * down e * down d
      right = mul_right_comm (p * up d) (down e) 100 ∙ ap (λ (z : ℕ). z * down e) r.1 ∙ mul_right_comm n (down d) (down e)

      above : (v w : ℕ) → v * 100 ≡ w → 0 < w → 0 < v
      above v w q l = omega arith

pub meets : (s : Bool) (n : ℕ) → 0 < n → (f g : Float) → T (not (rounded g (fraction s n 100))) → rounded f (fraction s n 100) ≡ ne f g
unfolding rounded ne eq
meets s n N nan g h = refl
meets s n N (inf t) nan h = absurd h
meets s n N (inf t) (inf u) h = absurd h
meets s n N (inf t) (fin u p d) h = refl
meets s n N (fin t m e) nan h = absurd h
meets s n N (fin t m e) (inf u) h = absurd h
meets s n N (fin t m e) (fin u p d) h = meets_at s t u n m p e d N (twice (eqb (gap u (p * up d * 100) s (n * down d)) 0) h)

-- ---- if an f32 is n / 100, then so is the nearest to it
no_zero : (e : ℤ) (n : ℕ) → 0 < n → zero * up e * 100 ≡ n * down e → ⊥
no_zero e n N h =
    lt_irrefl 0
    (subst (λ (x : ℕ). 0 < x) (sym h ∙ ap (λ (y : ℕ). y * 100) (zero-mul (up e)) ∙ zero-mul 100) (mul-pos N (down_pos e)))

large : (s : Bool) (n m k : ℕ) → m < 2 ^ 24 → m * 2 ^ k < 2 ^ 128 → m * 2 ^ k * 100 ≡ n * 1 → HasValue (round binary32 s n 100) s n 100
large s n m k small high h =
    round_exact binary32 s n 100 m (k + 149) (lit< tt) small
    (subst (λ (x : ℕ). x < 2 ^ 277) (mul_assoc m (2 ^ k) (2 ^ 149) ∙ ap (λ (x : ℕ). m * x) (sym (pow-add 2 k 149)))
    (shl_lt {a = m * 2 ^ k} 128 149 high))
    (ap (λ (x : ℕ). x * 2 ^ 149) (sym (mul-one n) ∙ sym h)
    ∙ mul_right_comm (m * 2 ^ k) 100 (2 ^ 149)
    ∙ ap (λ (x : ℕ). x * 100) (mul_assoc m (2 ^ k) (2 ^ 149) ∙ ap (λ (x : ℕ). m * x) (sym (pow-add 2 k 149))))

small_exponent : (k : ℕ) → 2 ^ suc k ≤ 2 ^ 149 → k < 149
small_exponent k h = lt_of_not-le (λ (g : 149 ≤ k). not-le_of_lt (pow-lt (suc-le-suc g)) h)

fine : (s : Bool) (n m k : ℕ) → m < 2 ^ 24 → k < 149 → m * 1 * 100 ≡ n * 2 ^ suc k → HasValue (round binary32 s n 100) s n 100
fine s n m k small short h =
    let j = 149 - suc k in
    round_exact binary32 s n 100 m j (lit< tt) small (under m j small (low k))
    (ap (λ (x : ℕ). n * 2 ^ x) (back k short)
    ∙ ap (λ (x : ℕ). n * x) (pow-add 2 (suc k) j)
    ∙ sym (mul_assoc n (2 ^ suc k) (2 ^ j))
    ∙ ap (λ (x : ℕ). x * 2 ^ j) (sym h)
    ∙ ap (λ (x : ℕ). x * 100 * 2 ^ j) (mul-one m)
    ∙ mul_right_comm m 100 (2 ^ j))
  where
    low : (k : ℕ) → 149 - suc k ≤ 253
    low k = omega arith

    back : (k : ℕ) → k < 149 → 149 ≡ suc k + (149 - suc k)
    back k h = omega arith

module _ (s : Bool) (n : ℕ) (N : 0 < n) where
  exact_back : (f : Float) → T (fits binary32 f) → T (not (rounded f (fraction s n 100))) → HasValue (round binary32 s n 100) s n 100
  unfolding rounded fits
  exact_back nan F h = absurd h
  exact_back (inf t) F h = absurd h
  exact_back (fin t zero e) F h =
      absurd (no_zero e n N
      (alike t s (zero * up e * 100) (n * down e) (mul-pos N (down_pos e)) (twice (eqb (gap t (zero * up e * 100) s (n * down e)) 0) h)).1)
  exact_back (fin t (suc m) (pos k)) F h =
      let a = eqb (suc m % 2) 1 in
      let b = ltb (suc m) (2 ^ 24) in
      let c = leb 1 (2 ^ 149) in
      let d = ltb (suc m * 2 ^ k) (2 ^ 128 * 1) in
      large s n (suc m) k (ltb→lt (suc m) (2 ^ 24) (and_r a b (and_l (a && b) c (and_l (a && b && c) d F))))
      (ltb→lt (suc m * 2 ^ k) (2 ^ 128) (and_r (a && b && c) d F))
      (alike t s (suc m * 2 ^ k * 100) (n * 1) (mul-pos N (lit< tt)) (twice (eqb (gap t (suc m * 2 ^ k * 100) s (n * 1)) 0) h)).1
  exact_back (fin t (suc m) (negsuc k)) F h =
      let a = eqb (suc m % 2) 1 in
      let b = ltb (suc m) (2 ^ 24) in
      let c = leb (2 ^ suc k) (2 ^ 149) in
      let d = ltb (suc m * 1) (2 ^ 128 * 2 ^ suc k) in
      let abc = and_l (a && b && c) d F in
      fine s n (suc m) k (ltb→lt (suc m) (2 ^ 24) (and_r a b (and_l (a && b) c abc)))
      (small_exponent k (leb→le (2 ^ suc k) (2 ^ 149) (and_r (a && b) c abc)))
      (alike t s (suc m * 1 * 100) (n * 2 ^ suc k) (mul-pos N (down_pos (negsuc k)))
      (twice (eqb (gap t (suc m * 1 * 100) s (n * 2 ^ suc k)) 0) h)).1

pub of_value : (x : Float) (s : Bool) (num den : ℕ) → HasValue x s num den → T (not (rounded x (fraction s num den)))
unfolding rounded
of_value nan s num den v = absurd v
of_value (inf t) s num den v = absurd v
of_value (fin t m e) s num den v =
    let a = m * up e * den in
    let b = num * down e in
    subst (λ (z : Bool). T (not (not (eqb (gap z a s b) 0)))) (sym v.0)
    (double (eqb (gap s a s b) 0) (subst T (sym (gap_same s a b)) (eq→eqb v.1)))

-- so beside a nearest f32 that is not n / 100, no f32 is
pub missed : (s : Bool) (n : ℕ) → 0 < n → (f : Float) → T (fits binary32 f) → T (rounded (round binary32 s n 100) (fraction s n 100))
    → rounded f (fraction s n 100) ≡ true
missed s n N f F g =
    go (rounded f (fraction s n 100))
    (λ h. T_not (rounded (round binary32 s n 100) (fraction s n 100))
    (of_value (round binary32 s n 100) s n 100 (exact_back s n N f F h)) g)
  where
    go : (b : Bool) → (T (not b) → ⊥) → b ≡ true
    go true f = refl
    go false f = absurd (f tt)
