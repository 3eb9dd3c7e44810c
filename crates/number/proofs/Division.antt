-- A quotient of two whole numbers that are f32 exactly is rounded once, and when one over a power of ten is an f32: 10 ^ p is 2 ^ p times
-- the odd 5 ^ p, so that 5 ^ p divides it.
use mathlib.Core.Path.{◌≡◌, refl, sym, ap, ◌∙◌, subst}
use Prim.Native.Nat.{ℕ, zero, suc, ◌+◌, ◌-◌, ◌*◌, ◌/◌, ◌%◌, ◌^◌, ◌≤◌, ◌<◌}
use native.Mathlib.Nat.{mul_comm, mul_assoc, mul_right_comm, mul-mul-mul_comm, mul-pos, mul-one, one-mul, zero-mul, add-mul, add-zero}
use native.Mathlib.Nat.{zero-lt-suc, pow-suc, one-le-pow, le-mul_of_pos_right, lt_of_le_of_lt}
use native.Mathlib.Nat.{lt_irrefl, div-add-mod', mod-lt, mul-mod_left, zero-mod}
use native.Mathlib.Nat.{add-mul-mod_self_right}
use native.Mathlib.Omega.{arith}
use mathlib.Core.Bool.{Bool, true, false, not}
use lib.Dec.{T, eqb, eqb→eq, not_T, lit<}
use lib.IntN.{ℤ, pos, negsuc}
use lib.Pow.{pow-add}
use lib.Ieee.{Float, nan, inf, fin, binary32, up, down, unlike, round, div}
use lib.Ieee.Fits.{down_pos, eq→eqb}
use lib.Ieee.Bits.{cond_no}
use lib.Ieee.Exact.{HasValue, round_exact}
use lib.Ieee.Scale.{round_same}
use Rattle.number.specs.Exact.{gap}
use Rattle.number.specs.Rounded.{fraction, rounded}
use Rattle.number.proofs.Round.{under}
use Rattle.number.proofs.TwoRoundings.{alike, twice, of_value}

-- ---- the quotient
like_first : (s : Bool) → unlike s false ≡ s
like_first true = refl
like_first false = refl

module _ (s : Bool) (m k n d : ℕ) (e g : ℤ) (D : 0 < d) (v : m * up e * 1 ≡ n * down e) (w : k * up g * 1 ≡ d * down g) where
  below : 0 < k * up g
  below = subst (λ (z : ℕ). 0 < z) (sym (sym (mul-one (k * up g)) ∙ w)) (mul-pos D (down_pos g))

  divisor : T (not (eqb k 0))
  divisor =
      not_T (eqb k 0)
      (λ t. lt_irrefl 0 (subst (λ (z : ℕ). 0 < z) (ap (λ (z : ℕ). z * up g) (eqb→eq k 0 t) ∙ zero-mul (up g)) below))

  crossed : m * up e * down g * d ≡ n * (k * up g * down e)
  crossed =
      ap (λ (z : ℕ). z * down g * d) (sym (mul-one (m * up e)) ∙ v)
      ∙ ap (λ (z : ℕ). z * d) (mul_assoc n (down e) (down g))
      ∙ mul_assoc n (down e * down g) d
      ∙ ap (λ (z : ℕ). n * z) (mul_assoc (down e) (down g) d ∙ mul_comm (down e) (down g * d))
      ∙ ap (λ (z : ℕ). n * (z * down e)) (mul_comm (down g) d ∙ sym w ∙ mul-one (k * up g))

  quotient_at : div binary32 (fin s m e) (fin false k g) ≡ round binary32 s n d
  unfolding div
  quotient_at =
      cond_no (eqb k 0) _ (round binary32 (unlike s false) (m * up e * down g) (k * up g * down e)) divisor
      ∙ round_same binary32 (unlike s false) (m * up e * down g) (k * up g * down e) n d (mul-pos below (down_pos e)) D crossed
      ∙ ap (λ (z : Bool). round binary32 z n d) (like_first s)

pub quotient_once : (x y : Float) (s : Bool) (n d : ℕ) → 0 < d → HasValue x s n 1 → HasValue y false d 1
    → div binary32 x y ≡ round binary32 s n d
quotient_once nan y s n d D v w = absurd v
quotient_once (inf t) y s n d D v w = absurd v
quotient_once (fin t m e) nan s n d D v w = absurd w
quotient_once (fin t m e) (inf u) s n d D v w = absurd w
quotient_once (fin t m e) (fin u k g) s n d D v w =
    ap (λ (z : Bool). div binary32 (fin z m e) (fin u k g)) v.0
    ∙ ap (λ (z : Bool). div binary32 (fin s m e) (fin z k g)) w.0
    ∙ quotient_at s m k n d e g D v.1 w.1

-- ---- an odd number that divides n * 2 ^ j divides n
halved : (f v n : ℕ) → f % 2 ≡ 1 → v * f ≡ n * 2 → v / 2 * f ≡ n
halved f v n o h =
    go (v % 2) (mod-lt v {m = 2} (lit< tt)) (ap (λ (z : ℕ). z * f) (div-add-mod' v 2) ∙ h)
  where
    even : (y z : ℕ) → y * 2 + 0 ≡ z * 2 → y ≡ z
    even y z e = omega arith

    odd : (y g z : ℕ) → g % 2 ≡ 1 → y * 2 + g ≡ z * 2 → ⊥
    odd y g z p e = omega arith

    split : (r : ℕ) → v / 2 * f * 2 + r * f ≡ (v / 2 * 2 + r) * f
    split r = ap (λ (z : ℕ). z + r * f) (mul_right_comm (v / 2) f 2) ∙ sym (add-mul (v / 2 * 2) r f)

    no : (r : ℕ) → suc (suc r) < 2 → ⊥
    no r l = omega arith

    go : (r : ℕ) → r < 2 → (v / 2 * 2 + r) * f ≡ n * 2 → v / 2 * f ≡ n
    go zero l e = even (v / 2 * f) n (ap (λ (z : ℕ). v / 2 * f * 2 + z) (sym (zero-mul f)) ∙ split 0 ∙ e)
    go (suc zero) l e = absurd (odd (v / 2 * f) f n o (ap (λ (z : ℕ). v / 2 * f * 2 + z) (sym (one-mul f)) ∙ split 1 ∙ e))
    go (suc (suc r)) l e = absurd (no r l)

odd_divides : (f : ℕ) → f % 2 ≡ 1 → (j v n : ℕ) → v * f ≡ n * 2 ^ j → n % f ≡ 0
odd_divides f o zero v n e = ap (λ (z : ℕ). z % f) (sym (e ∙ mul-one n)) ∙ mul-mod_left v f
odd_divides f o (suc j) v n e =
    odd_divides f o j (v / 2) n (halved f v (n * 2 ^ j) o (e ∙ ap (λ (z : ℕ). n * z) (pow-suc 2 j) ∙ sym (mul_assoc n (2 ^ j) 2)))

-- ---- the powers of ten
five_odd : (p : ℕ) → 5 ^ p % 2 ≡ 1
five_odd zero = refl
five_odd (suc p) =
    ap (λ (z : ℕ). z % 2) (pow-suc 5 p ∙ split (5 ^ p)) ∙ add-mul-mod_self_right (5 ^ p) (5 ^ p * 2) 2 ∙ five_odd p
  where
    split : (x : ℕ) → x * 5 ≡ x + x * 2 * 2
    split x = omega arith

ten_is : (p : ℕ) → 10 ^ p ≡ 2 ^ p * 5 ^ p
ten_is zero = refl
ten_is (suc p) =
    pow-suc 10 p
    ∙ ap (λ (z : ℕ). z * 10) (ten_is p)
    ∙ mul-mul-mul_comm (2 ^ p) (5 ^ p) 2 5
    ∙ ap (λ (z : ℕ). z * (5 ^ p * 5)) (sym (pow-suc 2 p))
    ∙ ap (λ (z : ℕ). 2 ^ suc p * z) (sym (pow-suc 5 p))

-- what is left of 0 to 9 when 0 to 8 are gone
abbrev Not : ℕ → ℕ → Type 0
Not p k = p ≡ k → ⊥

pub ninth : {p : ℕ} → p ≤ 9
    → ((((((((Unit {0} × Not p 0) × Not p 1) × Not p 2) × Not p 3) × Not p 4) × Not p 5) × Not p 6) × Not p 7) × Not p 8
    → p ≡ 9
ninth {p} h r =
    let a = r.0.0.0.0 in
    upper p h (lower p a.0.0.0.0.1 a.0.0.0.1 a.0.0.1 a.0.1 a.1) r.0.0.0.1 r.0.0.1 r.0.1 r.1
  where
    lower : (p : ℕ) → Not p 0 → Not p 1 → Not p 2 → Not p 3 → Not p 4 → 5 ≤ p
    lower p a b c d e = omega arith

    upper : (p : ℕ) → p ≤ 9 → 5 ≤ p → Not p 5 → Not p 6 → Not p 7 → Not p 8 → p ≡ 9
    upper p h l a b c d = omega arith

-- ---- an f32 is n / 10 ^ p only if 5 ^ p divides n
fives : (w n p j : ℕ) → w * 10 ^ p ≡ n * 2 ^ j → n % 5 ^ p ≡ 0
fives w n p j e =
    odd_divides (5 ^ p) (five_odd p) j (w * 2 ^ p) n (mul_assoc w (2 ^ p) (5 ^ p) ∙ ap (λ (z : ℕ). w * z) (sym (ten_is p)) ∙ e)

exact_only : (x : Float) (s : Bool) (n p : ℕ) → 0 < n → T (not (rounded x (fraction s n (10 ^ p)))) → n % 5 ^ p ≡ 0
unfolding rounded
exact_only nan s n p N h = absurd h
exact_only (inf t) s n p N h = absurd h
exact_only (fin t m (pos k)) s n p N h =
    let a = m * 2 ^ k * 10 ^ p in
    fives (m * 2 ^ k) n p 0 (alike t s a (n * 1) (mul-pos N (lit< tt)) (twice (eqb (gap t a s (n * 1)) 0) h)).1
exact_only (fin t m (negsuc k)) s n p N h =
    let a = m * 1 * 10 ^ p in
    let b = n * 2 ^ suc k in
    fives (m * 1) n p (suc k) (alike t s a b (mul-pos N (down_pos (negsuc k))) (twice (eqb (gap t a s b) 0) h)).1

-- ---- and the nearest is it if 5 ^ p divides n: q / 2 ^ p
exact_if : (s : Bool) (n p q : ℕ) → n < 2 ^ 24 → p ≤ 9 → q * 5 ^ p ≡ n → HasValue (round binary32 s n (10 ^ p)) s n (10 ^ p)
exact_if s n p q h P e =
    let j = 149 - p in
    let small : q < 2 ^ 24 = lt_of_le_of_lt
    (subst (λ (z : ℕ). q ≤ z) e (le-mul_of_pos_right {m = 5 ^ p} q (one-le-pow p 5 (lit< tt)))) h
    in
    round_exact binary32 s n (10 ^ p) q j (one-le-pow p 10 (lit< tt)) small (under q j small (low p))
    (ap (λ (z : ℕ). z * 2 ^ 149) (sym e)
    ∙ ap (λ (z : ℕ). q * 5 ^ p * 2 ^ z) (back p P)
    ∙ ap (λ (z : ℕ). q * 5 ^ p * z) (pow-add 2 j p)
    ∙ mul-mul-mul_comm q (5 ^ p) (2 ^ j) (2 ^ p)
    ∙ ap (λ (z : ℕ). q * 2 ^ j * z) (mul_comm (5 ^ p) (2 ^ p) ∙ sym (ten_is p)))
  where
    low : (p : ℕ) → 149 - p ≤ 253
    low p = omega arith

    back : (p : ℕ) → p ≤ 9 → 149 ≡ (149 - p) + p
    back p h = omega arith

opposite : (a b : Bool) → (T (not a) → T b) → (T b → T (not a)) → a ≡ not b
opposite true true f g = absurd (g tt)
opposite true false f g = refl
opposite false true f g = refl
opposite false false f g = absurd (f tt)

pub rounded_fives : (s : Bool) (n p : ℕ) → n < 2 ^ 24 → p ≤ 9
    → rounded (round binary32 s n (10 ^ p)) (fraction s n (10 ^ p)) ≡ not (eqb (n % 5 ^ p) 0)
rounded_fives s n p h P =
    opposite (rounded (round binary32 s n (10 ^ p)) (fraction s n (10 ^ p))) (eqb (n % 5 ^ p) 0)
    (λ t. eq→eqb (forth n t))
    (λ t. of_value (round binary32 s n (10 ^ p)) s n (10 ^ p) (exact_if s n p (n / 5 ^ p) h P (whole (eqb→eq (n % 5 ^ p) 0 t))))
  where
    forth : (n : ℕ) → T (not (rounded (round binary32 s n (10 ^ p)) (fraction s n (10 ^ p)))) → n % 5 ^ p ≡ 0
    forth zero t = zero-mod (5 ^ p)
    forth (suc n) t = exact_only (round binary32 s (suc n) (10 ^ p)) s (suc n) p (zero-lt-suc n) t

    whole : n % 5 ^ p ≡ 0 → n / 5 ^ p * 5 ^ p ≡ n
    whole e = sym (add-zero (n / 5 ^ p * 5 ^ p)) ∙ ap (λ (z : ℕ). n / 5 ^ p * 5 ^ p + z) (sym e) ∙ div-add-mod' n (5 ^ p)
