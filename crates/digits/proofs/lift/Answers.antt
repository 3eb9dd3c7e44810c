-- `digits::lift` meets its contract.
use native.Mathlib.Omega.{arith}
use Rattle.limbs.proofs.LimbLaws.{below_pow}
use Rattle.digits.proofs.lift.Goals as goal

pub returns-clause-below : goal.returns-clause-below
returns-clause-below c = below_pow 5 _ (λ k. omega (arith, c.type_inv.f k))
