-- `limbs::muladd` meets its contract: limb by limb, a carry passed on.
use borrow.Author.Rules.{rules}
use mathlib.Core.Path.{◌≡◌, refl, ap, ◌∙◌}
use Prim.Native.Nat.{ℕ, ◌+◌, ◌*◌, ◌%◌, ◌≤◌}
use native.Mathlib.Nat.{mul-le-mul_right}
use native.Mathlib.Omega.{arith}
use lib.ListN.{get_or}
use lib.Seq.{get_or-set_other}
use Rattle.limbs.specs.LimbMeans.{up_to}
use Rattle.limbs.proofs.LimbLaws.{mul_step}
use Rattle.limbs.proofs.muladd.Goals as goal

pub loop-limb-init : goal.loop-limb-init
unfolding up_to
loop-limb-init c = (omega (arith, c.requires, c.from-carry.ensures), omega arith, (λ k h. refl))

pub loop-limb-preserved : goal.loop-limb-preserved
loop-limb-preserved c =
    let xs = c.loop-limb.a in
    let i = c.loop-limb.limb-index in
    let m = c.args.m in
    let t = c.from.result * c.from-in-loop-limb.result + c.loop-limb.carry in
    let small : get_or xs i 0 ≤ 4294967295 = search rules in
    let is : t ≡ get_or xs i 0 * m + c.loop-limb.carry = ap (λ (z : ℕ). z * c.from-in-loop-limb.result + c.loop-limb.carry) c.from.ensures
    ∙ ap (λ (z : ℕ). get_or xs i 0 * z + c.loop-limb.carry) c.from-in-loop-limb.ensures
    in (
      omega (arith, mul-le-mul_right m small),
      mul_step i xs c.args.a.now m c.from-carry.result c.loop-limb.carry t (omega arith) (c.loop-limb.invariant.2 i (omega arith)) is c.loop-limb.invariant.1,
      (λ k h. get_or-set_other xs i k (t % 4294967296) 0 (λ e. omega arith) ∙ c.loop-limb.invariant.2 k (omega arith)),
    )
