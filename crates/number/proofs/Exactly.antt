-- When the nearest f32 to a fraction is the fraction: where its division left nothing.
use mathlib.Core.Path.{◌≡◌, refl, sym, ap, ◌∙◌, subst}
use Prim.Native.Nat.{ℕ, ◌+◌, ◌-◌, ◌*◌, ◌/◌, ◌%◌, ◌^◌, ◌≤◌, ◌<◌}
use native.Mathlib.Nat.{mul_comm, mul_assoc, mul_right_comm, mul-pos, eq_of_mul-eq-mul_right}
use native.Mathlib.Nat.{mul-mod_left, div-add-mod', add-zero, zero-mul}
use native.Mathlib.Omega.{arith}
use mathlib.Core.Bool.{Bool, true, false, not, cond}
use lib.Dec.{T, ltb, eqb, eqb→eq, lt→ltb, lit<}
use lib.IntN.{pos}
use lib.Pow.{pow_pos}
use lib.Ieee.{Float, nan, inf, fin, binary32, up, down, odd, units, round}
use lib.Ieee.Fits.{down_pos, eq→eqb}
use lib.Ieee.Exact.{HasValue, odd_sign}
use lib.Ieee.Nearest.{closest}
use lib.Ieee.Scale.{round_same}
use Rattle.number.specs.Exact.{gap}
use Rattle.number.specs.Rounded.{fraction, rounded}
use Rattle.number.proofs.Closest.{closest_below}
use Rattle.number.proofs.Round.{Scaled, Kept, round_by, under}

pub same_test : (a b : Bool) → (T a → T b) → (T b → T a) → a ≡ b
same_test true true p q = refl
same_test true false p q = absurd (p tt)
same_test false true p q = absurd (q tt)
same_test false false p q = refl

-- ---- the gap between two of one sign
no_gap : (a b : ℕ) → eqb ((a - b) + (b - a)) 0 ≡ eqb a b
no_gap a b =
    same_test (eqb ((a - b) + (b - a)) 0) (eqb a b)
    (λ t. eq→eqb (forth (eqb→eq ((a - b) + (b - a)) 0 t)))
    (λ t. eq→eqb (back (eqb→eq a b t)))
  where
    forth : (a - b) + (b - a) ≡ 0 → a ≡ b
    forth h = omega arith

    back : a ≡ b → (a - b) + (b - a) ≡ 0
    back h = omega arith

pub gap_same : (s : Bool) (a b : ℕ) → eqb (gap s a s b) 0 ≡ eqb a b
gap_same true a b = no_gap a b
gap_same false a b = no_gap a b

-- ---- of a value v / 2 ^ 149: whether v * den is num * 2 ^ 149
pub by_value : (x : Float) (s : Bool) (v num den : ℕ) → HasValue x s v (2 ^ 149)
    → rounded x (fraction s num den) ≡ not (eqb (v * den) (num * 2 ^ 149))
unfolding rounded
by_value nan s v num den h = absurd h
by_value (inf t) s v num den h = absurd h
by_value (fin t m e) s v num den h =
    ap (λ (z : Bool). not (eqb (gap z (m * up e * den) s (num * down e)) 0)) h.0
    ∙ ap not (gap_same s (m * up e * den) (num * down e)
    ∙ same_test (eqb (m * up e * den) (num * down e)) (eqb (v * den) (num * 2 ^ 149))
    (λ k. eq→eqb (forth (eqb→eq (m * up e * den) (num * down e) k)))
    (λ k. eq→eqb (back (eqb→eq (v * den) (num * 2 ^ 149) k))))
  where
    forth : m * up e * den ≡ num * down e → v * den ≡ num * 2 ^ 149
    forth p =
        eq_of_mul-eq-mul_right (down e) (down_pos e) (v * den) (num * 2 ^ 149)
        (mul_right_comm v den (down e) ∙ ap (λ (z : ℕ). z * den) (sym h.1) ∙ mul_right_comm (m * up e) (2 ^ 149) den
        ∙ ap (λ (z : ℕ). z * 2 ^ 149) p ∙ mul_right_comm num (down e) (2 ^ 149))

    back : v * den ≡ num * 2 ^ 149 → m * up e * den ≡ num * down e
    back p =
        eq_of_mul-eq-mul_right (2 ^ 149) (pow_pos 149) (m * up e * den) (num * down e)
        (mul_right_comm (m * up e) den (2 ^ 149) ∙ ap (λ (z : ℕ). z * den) h.1 ∙ mul_right_comm v (down e) den
        ∙ ap (λ (z : ℕ). z * down e) p ∙ mul_right_comm num (2 ^ 149) (down e))

-- ---- with nothing left the nearest whole number is the quotient, and only then
left_nothing : (a b : ℕ) → 0 < b → a % b ≡ 0 → closest a b * b ≡ a
left_nothing a b B e =
    ap (λ (z : ℕ). z * b) (closest_below a b (subst (λ (z : ℕ). z * 2 < b) (sym e) B))
    ∙ sym (sym (div-add-mod' a b) ∙ ap (λ (z : ℕ). a / b * b + z) e ∙ add-zero (a / b * b))

divides : (a b q : ℕ) → q * b ≡ a → a % b ≡ 0
divides a b q e = ap (λ (z : ℕ). z % b) (sym e) ∙ mul-mod_left q b

none_of : (w : Bool) → (T w → ⊥) → true ≡ not w
none_of true f = absurd (f tt)
none_of false f = refl

inf_rounded : (s t : Bool) (num den : ℕ) → rounded (inf s) (fraction t num den) ≡ true
unfolding rounded
inf_rounded s t num den = refl

-- the same of the certificate, multiplied out
module _ (num den a b k : ℕ) (D : 0 < den) (B : 0 < b) (e : Scaled num den a b k) where
  crossed : (q : ℕ) → q * 2 ^ k * den * b ≡ q * b * (den * 2 ^ k)
  crossed q =
      ap (λ (z : ℕ). z * b) (mul_assoc q (2 ^ k) den ∙ ap (λ (z : ℕ). q * z) (mul_comm (2 ^ k) den)) ∙ mul_right_comm q (den * 2 ^ k) b

  to_left : (q : ℕ) → q * 2 ^ k * den ≡ num * 2 ^ 149 → q * b ≡ a
  to_left q h = eq_of_mul-eq-mul_right (den * 2 ^ k) (mul-pos D (pow_pos k)) (q * b) a (sym (crossed q) ∙ ap (λ (z : ℕ). z * b) h ∙ e)

  to_right : (q : ℕ) → q * b ≡ a → q * 2 ^ k * den ≡ num * 2 ^ 149
  to_right q h =
      eq_of_mul-eq-mul_right b B (q * 2 ^ k * den) (num * 2 ^ 149) (crossed q ∙ ap (λ (z : ℕ). z * (den * 2 ^ k)) h ∙ sym e)

  finite_case : (s : Bool) (x : Float) → HasValue x s (closest a b * 2 ^ k) (2 ^ 149)
      → rounded x (fraction s num den) ≡ not (eqb (a % b) 0)
  finite_case s x v =
      let q = closest a b in
      by_value x s (q * 2 ^ k) num den v
      ∙ ap not (same_test (eqb (q * 2 ^ k * den) (num * 2 ^ 149)) (eqb (a % b) 0)
      (λ t. eq→eqb (divides a b q (to_left q (eqb→eq (q * 2 ^ k * den) (num * 2 ^ 149) t))))
      (λ t. eq→eqb (to_right q (left_nothing a b B (eqb→eq (a % b) 0 t)))))

  no_exact : (a / b < 2 ^ 24) → k ≤ 253 → (closest a b * 2 ^ k < 2 ^ 277 → ⊥) → T (eqb (a % b) 0) → ⊥
  no_exact h K f t =
      f (subst (λ (z : ℕ). z * 2 ^ k < 2 ^ 277)
      (sym (closest_below a b (subst (λ (z : ℕ). z * 2 < b) (sym (eqb→eq (a % b) 0 t)) B)))
      (under (a / b) k h K))

  by_units : (s : Bool) → a / b < 2 ^ 24 → k ≤ 253 → rounded (units binary32 s (closest a b) k) (fraction s num den) ≡ not (eqb (a % b) 0)
  unfolding units
  by_units s h K = go (ltb (closest a b * 2 ^ k) (2 ^ 277)) (lt→ltb (closest a b * 2 ^ k) (2 ^ 277))
    where
      go : (w : Bool) → (closest a b * 2 ^ k < 2 ^ 277 → T w)
          → rounded (cond w (odd 25 s (closest a b) k 149) (inf s)) (fraction s num den) ≡ not (eqb (a % b) 0)
      go true f = finite_case s (odd 25 s (closest a b) k 149) (odd_sign 25 s (closest a b) k 149)
      go false f = inf_rounded s s num den ∙ none_of (eqb (a % b) 0) (no_exact h K f)

pub rounded_by : (s : Bool) (num den a b k : ℕ) → 0 < den → 0 < b → Scaled num den a b k → Kept k (a / b) → k ≤ 253
    → rounded (round binary32 s num den) (fraction s num den) ≡ not (eqb (a % b) 0)
rounded_by s num den a b k D B e h K =
    ap (λ (x : Float). rounded x (fraction s num den)) (round_by s num den a b k D B e h) ∙ by_units num den a b k D B e s h.0 K

-- ---- 0 / d
nothing : (s : Bool) → round binary32 s 0 1 ≡ fin s 0 (pos 0)
unfolding round
nothing true = refl
nothing false = refl

pub zero_exact : (s : Bool) (d : ℕ) → 0 < d → rounded (round binary32 s 0 d) (fraction s 0 d) ≡ false
zero_exact s d D =
    ap (λ (x : Float). rounded x (fraction s 0 d)) (round_same binary32 s 0 d 0 1 D (lit< tt) (sym (zero-mul d)) ∙ nothing s)
    ∙ by_value (fin s 0 (pos 0)) s 0 0 d (refl, refl)
    ∙ ap (λ (z : ℕ). not (eqb z (0 * 2 ^ 149))) (zero-mul d)
