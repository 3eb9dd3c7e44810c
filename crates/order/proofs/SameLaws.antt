-- The listing depends on the calls among the items alone.
use Prim.Native.Nat.{ℕ, zero, suc, ◌<◌}
use mathlib.Core.Bool.{Bool, ◌||◌, not}
use mathlib.Core.List.{List, [], ◌∷◌, ◌++◌}
use mathlib.Core.Option.{Option, none, some}
use mathlib.Core.Path.{◌≡◌, refl}
use native.Mathlib.Omega.{arith}
use Rattle.text.specs.Bytes.{one_of}
use Rattle.order.specs.Order.{Calls, every, first, free, and_then, listed, order}

module _ (p q : ℕ → Bool) where
  every-same : (n : ℕ) → ((j : ℕ) → j < n → p j ≡ q j) → every p n ≡ every q n
  unfolding every
  every-same zero h = refl
  every-same (suc n) h = rw (every-same n (λ j l. h j (omega arith)), h n (omega arith))

  first-same : (n : ℕ) → ((j : ℕ) → j < n → p j ≡ q j) → first p n ≡ first q n
  unfolding first
  first-same zero h = refl
  first-same (suc n) h = rw (first-same n (λ j l. h j (omega arith)), h n (omega arith))

module _ (c d : Calls) (n : ℕ) (same : (i j : ℕ) → i < n → j < n → c i j ≡ d i j) where
  free-same : (l : List ℕ) (i : ℕ) → i < n → free c n l i ≡ free d n l i
  free-same l i h =
      rw (every-same (λ j. not (c i j) || one_of l j) (λ j. not (d i j) || one_of l j) n (λ j g. rw (same i j h g)))

  listed_same : (k : ℕ) (l : List ℕ) → listed c n k l ≡ listed d n k l
  unfolding listed
  listed_same zero l = refl
  listed_same (suc k) l =
      rw (first-same (free c n l) (free d n l) n (free-same l)) (go (λ i. listed_same k (l ++ (i ∷ []))) (first (free d n l) n))
    where
      go : ((i : ℕ) → listed c n k (l ++ (i ∷ [])) ≡ listed d n k (l ++ (i ∷ []))) → (o : Option ℕ)
          → and_then o (λ i. listed c n k (l ++ (i ∷ []))) ≡ and_then o (λ i. listed d n k (l ++ (i ∷ [])))
      go ih none = refl
      go ih (some i) = ih i

  pub order_same : order c n ≡ order d n
  order_same = listed_same n []
