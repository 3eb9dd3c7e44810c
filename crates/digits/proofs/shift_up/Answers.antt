-- `digits::shift_up` meets its contract.
use mathlib.Core.Path.{◌∙◌}
use Prim.Native.Nat.{◌*◌, ◌^◌, ◌<◌}
use native.Mathlib.Nat.{add-zero}
use Rattle.limbs.specs.LimbMeans.{up_to}
use Rattle.limbs.proofs.DecimalLaws.{carried_none}
use Rattle.digits.proofs.FractionLaws.{shift_next, shift_below}
use Rattle.digits.proofs.shift_up.Goals as goal

pub loop-i-preserved : goal.loop-i-preserved
loop-i-preserved c =
    let a = up_to 5 c.args.f.now in
    let v = up_to 5 c.loop-i.f in
    let i = c.loop-i._i in
    let small : v * 2 < 4294967296 ^ 5 = shift_below v a i c.args.n (4294967296 ^ 5) c.loop-i.invariant.1
    c.loop-i-test.true c.requires.1
    in (
      c.muladd.auto.a ∙ c.loop-i.invariant.0,
      carried_none _ c.muladd.result (4294967296 ^ 5) (v * 2) (c.muladd.ensures.by_index 5 (c.loop-i.invariant.0 ∙ c.requires.0) ∙ add-zero (v * 2)) small
          ∙ shift_next v a i c.loop-i.invariant.1,
    )
