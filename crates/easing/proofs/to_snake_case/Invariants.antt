use Prim.Native.Nat.{ℕ}
use mathlib.Core.List.{List}
use mathlib.Core.Path.{◌≡◌}
use lib.ListN.{drop, length}
use Rattle.easing.specs.Names.{snake_rest}
use Rattle.text.specs.WriteMeans.{Puts}
use Rattle.easing.proofs.to_snake_case.Given as goal

abbrev pub invariant-loop-b : goal.invariant-loop-b
invariant-loop-b l =
    (length l.out ≡ length l.initial.out)
    × ((after : List ℕ) (end : ℕ) → Puts l.out l.n (snake_rest (drop l.b-index l.rest)) after end → Puts l.initial.out l.initial.n (snake_rest l.rest) after end)
