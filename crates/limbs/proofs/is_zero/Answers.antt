-- `limbs::is_zero` meets its contract.
use Rattle.std.proofs.Common.{rules, IsTrue, EachIndex, ◌↔◌, slice_index}
use Rattle.std.proofs.lemmas.Bool.Decides.{same_from_decides, Decides-eqb}
use mathlib.Core.Path.{◌≡◌}
use native.Mathlib.Omega.{arith}
use lib.Dec.{eqb}
use Rattle.limbs.specs.LimbMeans.{up_to}
use Rattle.limbs.proofs.LimbLaws.{zero_limbs, zero_limb}
use Rattle.limbs.proofs.is_zero.Goals as goal

pub returns : goal.returns
returns c n h =
    let a = c.args.a.now in
    let each : IsTrue c.all.result ↔ EachIndex a (λ k. slice_index a k ≡ 0) = search rules in
    same_from_decides c.all.result (eqb (up_to n a) 0)
    ((λ t. zero_limbs n a (λ k l. each.0 t k (omega arith))), (λ e. each.1 (λ k l. zero_limb n k a e (omega arith))))
    (Decides-eqb (up_to n a) 0)
