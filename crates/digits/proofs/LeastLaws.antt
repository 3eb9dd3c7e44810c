-- `least_below p n`, the least number below n that passes the test p.
use Prim.Native.Nat.{ℕ, zero, suc, ◌<◌, ◌≤◌}
use mathlib.Core.Bool.{Bool, true, false}
use mathlib.Core.Option.{Option, none, some}
use mathlib.Core.Path.{◌≡◌, refl, ap, ◌∙◌, subst}
use native.Mathlib.Nat.{not-suc-le-zero, eq-or-lt_of_le, lt_of_not-le}
use native.Mathlib.Decide.{dec_le}
use mathlib.Core.Logic.{◌⊎◌, inl, inr, ⊎_elim}
use native.Mathlib.Omega.{arith}
use Rattle.digits.specs.Fewest.{least_below, or_last}

pub either : (a b : ℕ) → (a ≤ b) ⊎ (b < a)
either a b = go (dec_le a b)
  where
    go : Dec (a ≤ b) → (a ≤ b) ⊎ (b < a)
    go (yes h) = inl h
    go (no h) = inr (lt_of_not-le h)

pub record Least (p : ℕ → Bool) (n k : ℕ) : Type 0 where
  pub below : k < n
  pub passes : p k ≡ true
  pub before : (j : ℕ) → j < k → p j ≡ false

-- none below n passes
pub record Nowhere (p : ℕ → Bool) (n : ℕ) : Type 0 where
  pub fails : (j : ℕ) → j < n → p j ≡ false

abbrev pub Found : (ℕ → Bool) → ℕ → Option ℕ → Type 0
Found p n none = Nowhere p n
Found p n (some k) = Least p n k

next : (p : ℕ → Bool) (n : ℕ) (o : Option ℕ) (b : Bool) → p n ≡ b → Found p n o → Found p (suc n) (or_last o b n)
next p n (some k) b e f = record { below = omega (arith, f.below); passes = f.passes; before = f.before }
next p n none true e f = record { below = omega arith; passes = e; before = f.fails }
next p n none false e f = record {
  fails = λ j h. ⊎_elim (λ (q : j ≡ n). ap p q ∙ e) (λ (l : j < n). f.fails j l) (eq-or-lt_of_le (le j h));
}
  where
    le : (j : ℕ) → j < suc n → j ≤ n
    le j h = omega arith

pub search_found : (p : ℕ → Bool) (n : ℕ) → Found p n (least_below p n)
unfolding least_below
search_found p zero = record { fails = λ j h. absurd (not-suc-le-zero h) }
search_found p (suc n) = next p n (least_below p n) (p n) refl (search_found p n)

-- what is found
pub least_of : (p : ℕ → Bool) (n k : ℕ) → least_below p n ≡ some k → Least p n k
least_of p n k e = subst (Found p n) e (search_found p n)

pub nowhere_of : (p : ℕ → Bool) (n : ℕ) → least_below p n ≡ none → Nowhere p n
nowhere_of p n e = subst (Found p n) e (search_found p n)

-- and that it is found
pub never : {A : Type 0} (b : Bool) → b ≡ true → b ≡ false → A
never b e f = absurd (let z : ◌≡◌ {A = ℕ} 0 1 = cc in omega arith)

same : (p : ℕ → Bool) (n j k : ℕ) → Least p n j → Least p n k → j ≡ k
same p n j k f g =
    ⊎_elim (λ (h : j ≤ k). ⊎_elim (λ (e : j ≡ k). e) (λ (l : j < k). never (p j) f.passes (g.before j l)) (eq-or-lt_of_le h))
    (λ (l : k < j). never (p k) g.passes (f.before k l)) (either j k)

pub least_is : (p : ℕ → Bool) (n k : ℕ) → Least p n k → least_below p n ≡ some k
least_is p n k g = go (least_below p n) (search_found p n)
  where
    go : (o : Option ℕ) → Found p n o → o ≡ some k
    go none f = never (p k) g.passes (f.fails k g.below)
    go (some j) f = ap some (same p n j k f g)

pub nowhere_is : (p : ℕ → Bool) (n : ℕ) → Nowhere p n → least_below p n ≡ none
nowhere_is p n g = go (least_below p n) (search_found p n)
  where
    go : (o : Option ℕ) → Found p n o → o ≡ none
    go none f = refl
    go (some j) f = never (p j) f.passes (g.fails j f.below)
