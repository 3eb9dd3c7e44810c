use mathlib.Core.List.{List}
use mathlib.Core.Logic.{◌⊎◌}
use mathlib.Core.Path.{◌≡◌}
use Prim.Native.Nat.{ℕ, ◌<◌}
use lib.ListN.{drop}
use Rattle.text.specs.Bytes.{decimal}
use Rattle.token.proofs.capped.Given as goal

-- v makes n with the digits l behind it, or both are large
abbrev pub Goes : ℕ → List ℕ → ℕ → Type 0
Goes v l n = (decimal v l ≡ n) ⊎ ((4294967295 < v) × (4294967295 < n))

abbrev pub invariant-loop-b : goal.invariant-loop-b
invariant-loop-b l = Goes l.v (drop l.b-index l.digits) (decimal 0 l.digits)
