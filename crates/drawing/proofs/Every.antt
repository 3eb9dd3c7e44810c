-- A test of every entry of a list and its place: if it passes, it holds at each place.
use Prim.Native.Nat.{ℕ, zero, suc, ◌+◌, ◌<◌}
use mathlib.Core.Bool.{Bool, true, false}
use mathlib.Core.List.{List, [], ◌∷◌}
use mathlib.Core.Path.{subst}
use native.Mathlib.Omega.{arith}
use native.Mathlib.Nat.{le_of_suc-le-suc}
use lib.Dec.{T}
use lib.ListN.{length, get_or}

-- two tests pass
abbrev pub both : Bool → Bool → Bool
both true b = b
both false b = false

pub both_left : (a b : Bool) → T (both a b) → T a
both_left true b t = tt
both_left false b t = absurd t

pub both_right : (a b : Bool) → T (both a b) → T b
both_right true b t = t
both_right false b t = absurd t

-- the test passes at each entry, the first of which has the place k
unfoldable pub every : (ℕ → ℕ → Bool) → ℕ → List ℕ → Bool
every p k [] = true
every p k (x ∷ xs) = both (p k x) (every p (suc k) xs)

entry_from : (p : ℕ → ℕ → Bool) (k : ℕ) (xs : List ℕ) → T (every p k xs) → (i : ℕ) → i < length xs → T (p (i + k) (get_or xs i 0))
unfolding every
entry_from p k [] t i h = absurd (omega arith)
entry_from p k (x ∷ xs) t zero h = subst (λ (n : ℕ). T (p n x)) (omega arith) (both_left (p k x) (every p (suc k) xs) t)
entry_from p k (x ∷ xs) t (suc i) h =
    subst (λ (n : ℕ). T (p n (get_or xs i 0))) (omega arith)
    (entry_from p (suc k) xs (both_right (p k x) (every p (suc k) xs) t) i (le_of_suc-le-suc h))

pub at : (p : ℕ → ℕ → Bool) (xs : List ℕ) → T (every p 0 xs) → (i : ℕ) → i < length xs → T (p i (get_or xs i 0))
at p xs t i h = subst (λ (n : ℕ). T (p n (get_or xs i 0))) (omega arith) (entry_from p 0 xs t i h)
