-- Euclid's algorithm, and fractions in lowest terms.
use Prim.Native.Nat.{ℕ, zero, suc, ◌+◌, ◌*◌, ◌/◌, ◌%◌, ◌≤◌, ◌<◌, ◌∣◌}
use mathlib.Core.Bool.{Bool, true, false}
use mathlib.Core.Path.{◌≡◌, refl, sym, ap, ◌∙◌}
use native.Mathlib.Nat.{mod-lt, mul-one, mul_comm, mul_assoc, dvd_refl, dvd-zero, dvd-mod_iff, mul-dvd-mul_left}
use native.Mathlib.Nat.{mul-div_cancel', pos_of_dvd_of_pos, dvd_of_mul-dvd-mul_left, eq-one_of_dvd-one}
use native.Mathlib.Omega.{arith}
use mathlib.Core.List.{List}
use lib.Dec.{eqb}
use lib.ListN.{get_or, drop}
use lib.Seq.{get_or-drop}
use borrow.Author.Tests.{eq-eqb, ne_eqb, eqb-true, eqb-false}
use Rattle.error.specs.declared.Refusal.TheVariants.{TooManyScripts}
use Rattle.totals.specs.Totals.{accepted_word, first_kind_word, entries_word, kind_words, figure_limit, over}
use Rattle.totals.specs.Mean.{gcd_by, gcd, fraction, tracks_word, node_records, mean_of, mean, Lowest}
use Rattle.error.specs.declared.MeanAnswer.{MeanAnswer}
use Rattle.error.specs.declared.MeanAnswer.TheVariants.{Fraction, Nothing, Refused}
use Rattle.totals.proofs.TotalsLaws.{within, sum-within}

-- ---- the loop

-- what is left to do gives the divisor of a and b
pub record Euclid (a b x y : ℕ) : Type 0 where
  pub steps : ℕ
  pub enough : y < steps
  pub is : gcd_by steps x y ≡ gcd a b

pub euclid_start : (a b : ℕ) → Euclid a b a b
euclid_start a b = record { steps = suc b; enough = omega arith; is = refl }

gcd_stops : (k x y : ℕ) → y < k → y ≡ 0 → gcd_by k x y ≡ x
unfolding gcd_by
gcd_stops zero x y h e = absurd (omega arith)
gcd_stops (suc k) x y h e = rw (gcd_by, eq-eqb y 0 e)

gcd_goes : (k x y : ℕ) → (y ≡ 0 → ⊥) → gcd_by (suc k) x y ≡ gcd_by k y (x % y)
unfolding gcd_by
gcd_goes k x y n = rw (gcd_by, ne_eqb y 0 n)

pub euclid_next : {a b x y : ℕ} → Euclid a b x y → (y ≡ 0 → ⊥) → Euclid a b y (x % y)
euclid_next {a} {b} {x} {y} e n = go e.steps e.enough e.is
  where
    go : (k : ℕ) → y < k → gcd_by k x y ≡ gcd a b → Euclid a b y (x % y)
    go zero h q = absurd (omega arith)
    go (suc k) h q =
        let p : 0 < y = omega arith in
        record { steps = k; enough = omega (arith, mod-lt x p); is = sym (gcd_goes k x y n) ∙ q }

pub euclid_last : {a b x y : ℕ} → Euclid a b x y → y ≡ 0 → x ≡ gcd a b
euclid_last {x = x} {y = y} e z = sym (gcd_stops e.steps x y e.enough z) ∙ e.is

-- ---- what it is

-- g divides both, and whatever divides both divides g
pub record Greatest (a b g : ℕ) : Type 0 where
  pub left : g ∣ a
  pub right : g ∣ b
  pub most : (c : ℕ) → c ∣ a → c ∣ b → c ∣ g

greatest_by : (k a b : ℕ) → b < k → Greatest a b (gcd_by k a b)
unfolding gcd_by
greatest_by zero a b h = absurd (omega arith)
greatest_by (suc k) a b h = go (eqb b 0) refl (λ p. greatest_by k b (a % b) (omega (arith, mod-lt a p)))
  where
    go : (t : Bool) → eqb b 0 ≡ t → (0 < b → Greatest b (a % b) (gcd_by k b (a % b)))
        → Greatest a b (elim t [ true ↦ a | false ↦ gcd_by k b (a % b) ])
    go true q r = record { left = dvd_refl a; right = rw (eqb-true b 0 q) (dvd-zero a); most = λ c p r. p }
    go false q r =
        let n = eqb-false b 0 q in
        let g = r (omega arith) in
        record {
          left = (dvd-mod_iff (gcd_by k b (a % b)) g.left).0 g.right;
          right = g.left;
          most = λ c x y. g.most c y ((dvd-mod_iff c y).1 x);
        }

pub greatest : (a b : ℕ) → Greatest a b (gcd a b)
greatest a b = greatest_by (suc b) a b (omega arith)

pub gcd_positive : (a b : ℕ) → 0 < b → 0 < gcd a b
gcd_positive a b h = pos_of_dvd_of_pos (greatest a b).right h

-- a quotient by the divisor is exact and in lowest terms
pub lowest_terms : (a b : ℕ) → 0 < b → Lowest a b (a / gcd a b) (b / gcd a b)
lowest_terms a b h = go (gcd a b) (greatest a b) (gcd_positive a b h)
  where
    go : (g : ℕ) → Greatest a b g → 0 < g → Lowest a b (a / g) (b / g)
    go g m p =
        let x = mul-div_cancel' g m.left in
        let y = mul-div_cancel' g m.right in
        record {
          exact = ap (λ (n : ℕ). a / g * n) (sym y) ∙ sym (mul_assoc (a / g) g (b / g))
              ∙ ap (λ (n : ℕ). n * (b / g)) (mul_comm (a / g) g ∙ x);
          lowest = λ c u v. eq-one_of_dvd-one (dvd_of_mul-dvd-mul_left c p
              (rw (mul-one g) (m.most (g * c) (rw (sym x) (mul-dvd-mul_left c g u)) (rw (sym y) (mul-dvd-mul_left c g v)))));
        }

-- ---- the answer

pub no_quotient : (a b : ℕ) → b ≡ 0 → Nothing ≡ fraction a b
no_quotient a zero e = refl
no_quotient a (suc b) e = absurd (omega arith)

pub quotient_is : (a b : ℕ) → (b ≡ 0 → ⊥) → {g : ℕ} → g ≡ gcd a b → Fraction (a / g) (b / g) ≡ fraction a b
quotient_is a zero n e = absurd (n refl)
quotient_is a (suc b) n e = rw e refl

module _ (ws : List ℕ) (which : ℕ) where
  pub mean-over : over ws ≡ true → Refused TooManyScripts 0 ≡ mean ws which
  unfolding mean
  mean-over e = rw (mean, e)

  module _ (e : over ws ≡ false) {r : MeanAnswer} where
    pub mean-records : which ≡ 0 → r ≡ fraction (node_records ws) (get_or ws accepted_word 0) → r ≡ mean ws which
    unfolding mean
    mean-records z q = q ∙ rw (mean, e, z) refl

    pub mean-entries : (which ≡ 0 → ⊥) → r ≡ fraction (get_or ws entries_word 0) (get_or ws tracks_word 0) → r ≡ mean ws which
    unfolding mean
    mean-entries n q = q ∙ rw (mean, e) (by which n)
      where
        by : (w : ℕ) → (w ≡ 0 → ⊥) → fraction (get_or ws entries_word 0) (get_or ws tracks_word 0) ≡ mean_of ws w
        by zero n = absurd (n refl)
        by (suc w) n = refl

  -- what is asked for fits 32 bits
  pub records_fit : over ws ≡ false → node_records ws < 4294967296
  records_fit e =
      let h : (i : ℕ) → get_or (drop first_kind_word ws) i 0 ≤ figure_limit = λ i. rw (get_or-drop first_kind_word ws i 0)
      (within ws e (first_kind_word + i))
      in
      omega (arith, sum-within kind_words (drop first_kind_word ws) h)
