use mathlib.Core.Path.{◌≡◌}
use Prim.Native.Nat.{ℕ, ◌+◌, ◌*◌, ◌-◌, ◌^◌, ◌≤◌, ◌<◌}
use Rattle.digits.specs.Means.{parts_number}
use Rattle.digits.specs.declared.Parts.{Parts}
use Rattle.digits.proofs.least_whole.Given as goal

pub record Grown (w i : ℕ) (p : Parts) : Type 0 where
  pub least : 150 ≤ i
  pub most : i ≤ 253
  pub n : p.n < 10 ^ 18
  pub middle : p.middle < 10 ^ 18
  pub is : parts_number p ≡ (2 * w + 1) * 2 ^ (i - 150)

abbrev pub invariant-loop-i : goal.invariant-loop-i
invariant-loop-i l = Grown l.w l._i l.p × (l.k ≤ 253) × (151 ≤ l.k)
