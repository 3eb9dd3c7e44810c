-- `limbs::lower` meets its contract.
use mathlib.Core.Path.{sym, subst}
use Prim.Native.Nat.{ℕ, ◌*◌, ◌^◌, ◌<◌, ◌≤◌}
use native.Mathlib.Nat.{min-le_left, min-le_right}
use native.Mathlib.Omega.{arith}
use Rattle.limbs.specs.LimbMeans.{val}
use Rattle.limbs.proofs.LongLaws.{shifted, below, lowered}
use Rattle.limbs.proofs.lower.Goals.{After-min-n}
use Rattle.limbs.proofs.lower.Goals as goal

-- a doubled so often is below twice b
under : (w : After-min-n) →
    val w.args.a.now * 2 ^ w.min-n.result < val w.args.b.now * 2
under w =
    shifted (val w.args.a.now) (val w.args.b.now) w.size-2.result w.size.result w.min-n.result
    w.size-2.ensures.0 w.size.ensures.1 (omega (arith, w.min-n.ensures, w.saturating_sub.ensures, min-le_left w.saturating_sub.result w.args.k)) w.requires.1

pub scale-requires : goal.scale-requires
scale-requires c = (omega arith, omega arith, omega arith, below _ _ _ (under (goal.at.scale-requires c).After-min-n) c.requires.2)

pub returns : goal.returns
returns c =
    let n = c.min-n.result in
    let k = c.args.k in
    let most : n ≤ k = omega (arith, c.min-n.ensures, min-le_right c.saturating_sub.result k) in (
      omega arith,
      lowered (val c.args.a.now) (val c.scale.new.a) n k c.scale.ensures (omega (arith, most)),
      subst (λ (z : ℕ). z < val c.args.b.now * 2) (sym c.scale.ensures) (under (goal.at.returns c).After-min-n),
    )
