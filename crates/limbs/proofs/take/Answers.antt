-- `limbs::take` meets its contract: limb by limb, a borrow passed on.
use mathlib.Core.Path.{◌≡◌, refl, ◌∙◌}
use Prim.Native.Nat.{◌+◌, ◌*◌, ◌-◌, ◌<◌}
use native.Mathlib.Omega.{arith}
use lib.ListN.{get_or, length-set}
use lib.Seq.{get_or-set_other}
use Rattle.limbs.specs.LimbMeans.{up_to}
use Rattle.limbs.proofs.LimbLaws.{sub_step, write_below}
use Rattle.limbs.proofs.take.Goals as goal

pub loop-i-init : goal.loop-i-init
unfolding up_to
loop-i-init c = (omega arith, omega arith, refl, refl, (λ k h. refl), omega arith)

pub loop-i-preserved : goal.loop-i-preserved
loop-i-preserved c =
    let args = c.args in
    let xs = c.loop-i.a in
    let i = c.loop-i.i in
    let x = c.from-x.result in
    let y = c.from.result in
    let next = c.borrow_of-borrow.result in
    let v = x + next * 4294967296 - (y + c.loop-i.borrow) in
    let small : v < 4294967296 = omega arith in
    let whole : v + get_or args.b.now i 0 + c.loop-i.borrow ≡ get_or xs i 0 + next * 4294967296 = omega arith in (
      omega arith,
      omega arith,
      length-set xs i v ∙ c.loop-i.invariant.2,
      sub_step i xs args.a.now args.b.now v c.loop-i.borrow next (omega arith) (c.loop-i.invariant.4 i (omega arith)) whole c.loop-i.invariant.3,
      (λ k h. get_or-set_other xs i k v 0 (λ e. omega arith) ∙ c.loop-i.invariant.4 k (omega arith)),
      write_below i xs v (omega arith) small c.loop-i.invariant.5,
    )
