-- Demand 3's numeric laws, of one written time and of two.
use mathlib.Core.Path.{◌≡◌, refl, sym, ap, ◌∙◌, subst}
use mathlib.Core.Logic.{◌⊎◌, inl, inr}
use mathlib.Core.Bool.{Bool, true, false, cond}
use mathlib.Core.Option.{some}
use Prim.Native.Nat.{ℕ, ◌+◌, ◌-◌, ◌*◌, ◌^◌, ◌≤◌, ◌<◌}
use native.Mathlib.Nat.{le_trans, le_of_eq, mul_comm, mul_assoc, mul_right_comm, le_of_mul-le-mul_right, mul-le-mul_right, one-le-pow}
use native.Mathlib.Omega.{arith}
use lib.Dec.{lit<}
use lib.Pow.{pow-add, pow_pos}
use lib.Ieee.{Float, nan, inf, fin, binary32, up, down, round}
use lib.Ieee.Exact.{HasValue}
use lib.Ieee.Scale.{grid}
use Rattle.number.specs.Number.{nearest, percent}
use Rattle.number.specs.Exact.{Exact, exact_of, gap, apart, dens}
use Rattle.number.specs.Time.{Key, written_time, stored_time, near}
use Rattle.times.specs.Terms.{FairPercent, AtMost, Within, Far, Equal, Close}
use Rattle.number.proofs.Error.{Near}
use Rattle.number.proofs.Gap.{gap_scale}
use Rattle.times.proofs.Apart.{within, held, separated, equal, close}
use Rattle.number.proofs.Hundredth.{percent_once}

-- ---- one fraction ±n / d of size at most 2 ^ k, and its f32

-- x is within 2 ^ (k - 25) of w
abbrev pub Off : ℕ → Exact → Float → Type 0
Off k w x = (y : Exact) × (exact_of x ≡ some y) × (apart y w * 2 ^ 25 ≤ 2 ^ k * dens y w)

same_sign : (s : Bool) (a b : ℕ) → gap s a s b ≡ (a - b) + (b - a)
same_sign true a b = refl
same_sign false a b = refl

both_ways : (x y e : ℕ) → Near x y e → (x - y) + (y - x) ≤ e
both_ways x y e (p, q) = omega arith

-- from units of 2 ^ -149 to the float's own numerator and denominator
off : (s : Bool) (n d k g : ℕ) (x : Float) → HasValue x s g (2 ^ 149)
    → Near (g * d) (n * 2 ^ 149) (2 ^ (k + 124) * d)
    → Off k (record { negative = s; num = n; den = d }) x
off s n d k g nan v h = absurd v
off s n d k g (inf t) v h = absurd v
off s n d k g (fin t m e) v h = (
  record { negative = t; num = m * up e; den = down e },
  refl,
  subst (λ (b : Bool). gap b (m * up e * d) s (n * down e) * 2 ^ 25 ≤ 2 ^ k * (down e * d)) (sym v.0)
      (le_of_mul-le-mul_right (le_trans (le_of_eq left) (le_trans (mul-le-mul_right (down e) bound) (le_of_eq right))) (pow_pos 124)),
)
  where
    a_is : m * up e * d * 2 ^ 149 ≡ g * d * down e
    a_is = mul_right_comm (m * up e) d (2 ^ 149) ∙ ap (λ (z : ℕ). z * d) v.1 ∙ mul_right_comm g (down e) d

    left : gap s (m * up e * d) s (n * down e) * 2 ^ 25 * 2 ^ 124 ≡ gap s (g * d) s (n * 2 ^ 149) * down e
    left =
        mul_assoc (gap s (m * up e * d) s (n * down e)) (2 ^ 25) (2 ^ 124)
        ∙ sym (gap_scale s s (m * up e * d) (n * down e) (2 ^ 149))
        ∙ ap (λ (z : ℕ). gap s z s (n * down e * 2 ^ 149)) a_is
        ∙ ap (λ (z : ℕ). gap s (g * d * down e) s z) (mul_right_comm n (down e) (2 ^ 149))
        ∙ gap_scale s s (g * d) (n * 2 ^ 149) (down e)

    bound : gap s (g * d) s (n * 2 ^ 149) ≤ 2 ^ (k + 124) * d
    bound = le_trans (le_of_eq (same_sign s (g * d) (n * 2 ^ 149))) (both_ways (g * d) (n * 2 ^ 149) (2 ^ (k + 124) * d) h)

    right : 2 ^ (k + 124) * d * down e ≡ 2 ^ k * (down e * d) * 2 ^ 124
    right =
        mul_assoc (2 ^ (k + 124)) d (down e)
        ∙ ap (λ (z : ℕ). z * (d * down e)) (pow-add 2 k 124)
        ∙ mul_right_comm (2 ^ k) (2 ^ 124) (d * down e)
        ∙ ap (λ (z : ℕ). 2 ^ k * z * 2 ^ 124) (mul_comm d (down e))

pub round_error : (s : Bool) (n d k : ℕ) → 0 < d → k ≤ 34 → n ≤ 2 ^ k * d
    → Off k (record { negative = s; num = n; den = d }) (round binary32 s n d)
round_error s n d k D K h = off s n d k (grid binary32 n d) (round binary32 s n d) (held s k n d D K h) (within k n d D h)

-- a whole percent's, up to 2 ^ 24: once it is below 2 ^ k
pub percent_error : (s : Bool) (n k : ℕ) → n ≤ 16777216 → k ≤ 34 → n ≤ 2 ^ k * 100
    → Off k (record { negative = s; num = n; den = 100 }) (percent s n)
percent_error s n k N K h = rw (percent_once s n N) (round_error s n 100 k (lit< tt) K h)

-- ---- a key
pub den_pos : (t : Key) → 0 < (written_time t).den
den_pos t = go t.percent
  where
    go : (b : Bool) → 0 < cond b 100 (10 ^ t.written.places)
    go true = lit< tt
    go false = one-le-pow t.written.places 10 (lit< tt)

-- it is rounded once
once : (t : Key) → FairPercent t → stored_time t ≡ round binary32 t.negative t.written.digits (written_time t).den
unfolding stored_time nearest
once t F = go t.percent F
  where
    go : (b : Bool) → (b ≡ true → t.written.digits ≤ 16777216)
        → cond b (percent t.negative t.written.digits) (nearest t.negative t.written)
        ≡ round binary32 t.negative t.written.digits (cond b 100 (10 ^ t.written.places))
    go true f = percent_once t.negative t.written.digits (f refl)
    go false f = refl

-- "each time stored for the track is within 2^(k-25) of the written one"
pub stored-within : (k : ℕ) → k ≤ 34 → (t : Key) → FairPercent t → AtMost k t → Within k t (stored_time t)
stored-within k K t F A = rw (once t F) (round_error t.negative t.written.digits (written_time t).den k (den_pos t) K A)

-- ---- two keys, of size at most 2 ^ k
module _ (k : ℕ) (K : k ≤ 34) (t u : Key) (Ft : FairPercent t) (Fu : FairPercent u) (At : AtMost k t) (Au : AtMost k u) where
  -- "differ .. by 2^-23 + 2^(k-24) or more": no duplicate
  pub far_not-near : Far k t u → near (stored_time t) (stored_time u) ≡ false
  far_not-near f =
      rw (once t Ft, once u Fu)
      (separated t.negative u.negative t.written.digits (written_time t).den u.written.digits (written_time u).den
      (den_pos t) (den_pos u) k K At Au f)

  -- "equal written times, or k = 0 and two differ by less than 2^-24": a duplicate
  pub same-near : Equal t u ⊎ ((k ≡ 0) × Close t u) → near (stored_time t) (stored_time u) ≡ true
  same-near (inl e) =
      rw (once t Ft, once u Fu)
      (equal t.negative u.negative t.written.digits (written_time t).den u.written.digits (written_time u).den (den_pos t)
      (den_pos u) k K At Au e)
  same-near (inr (z, c)) =
      rw (once t Ft, once u Fu)
      (close t.negative u.negative t.written.digits (written_time t).den u.written.digits (written_time u).den (den_pos t)
      (den_pos u)
      (subst (λ (z : ℕ). AtMost z t) z At) (subst (λ (z : ℕ). AtMost z u) z Au) c)
