-- An answer that is the one defined has its number and values.
use Prim.Native.Nat.{ℕ}
use mathlib.Core.List.{List}
use mathlib.Core.Path.{◌≡◌, ap}

pub and_values : {A : Type 0} (values : A → List ℕ) {x y : A} → x ≡ y → (x ≡ y) × (values x ≡ values y)
and_values values e = (e, ap values e)

-- an answer with the buffers afterwards
pub with_values : {A B : Type 0} (values : A → List ℕ) {x y : A × B} → x ≡ y → (x ≡ y) × (values x.0 ≡ values y.0)
with_values values e = (e, ap (λ p. values p.0) e)
