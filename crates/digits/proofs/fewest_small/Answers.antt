-- `digits::fewest_small` meets its contract: the search finds the best of the first places, or goes on with 10.
use Prim.Native.Nat.{◌<◌}
use mathlib.Core.Logic.{inl, inr}
use native.Mathlib.Omega.{arith}
use Rattle.digits.proofs.MiddleLaws.{spaced}
use Rattle.digits.proofs.LengthyLaws.{lengthy, tiny_missed, tiny_wide}
use Rattle.digits.proofs.SearchLaws.{search_ready, search_goes_on, search_ends, search_missed}
use Rattle.digits.proofs.fewest_small.Goals.{else-loop-places-test, then-loop-places-test+then-s-places}
use Rattle.digits.proofs.fewest_small.Goals as goal

pub fewest_long-requires : goal.fewest_long-requires
fewest_long-requires c =
    let high = c.middle_below-high.ensures in
    let low = c.middle_below-low.ensures in
    let some : 0 < c.args.bits = omega (arith, c.requires.0) in
    lengthy some low high (tiny_wide c.args.bits some c.if-bits-lt-LOWEST.true low.1)
    (tiny_missed c.args.bits some c.if-bits-lt-LOWEST.true)

pub step-s-requires : goal.step-s-requires
step-s-requires c = search_ready c.loop-places.invariant c.loop-places-test.true c.ten_to.ensures c.if-s-places.false

pub loop-places-preserved : goal.loop-places-preserved
loop-places-preserved c =
    let g = c.loop-places.invariant in
    search_goes_on g c.loop-places-test.true
    (c.step-s.ensures _ g.inside g.halfway_low g.halfway_high
    (spaced (omega (arith, c.requires.0)) g.placed_low g.placed_high)
    g.searched)

pub fewest_long-requires-in-None : goal.fewest_long-requires-in-None
fewest_long-requires-in-None c =
    let g = c.loop-places.invariant in
    let m = search_missed g.searched g.few
    (elim c.loop-places-test.branch [
      | then-loop-places-test+then-s-places w ↦ inr w.if-s-places.true
      | else-loop-places-test w ↦ inl w.loop-places-test.false
    ])
    c.in-None.is
    in
    lengthy (omega (arith, c.requires.0)) (g.halfway_low, g.placed_low) (g.halfway_high, g.placed_high) m.1 m.0

pub returns-in_default : goal.returns-in_default
returns-in_default c =
    let g = c.loop-places.invariant in
    let f = search_ends g.searched g.few
    (elim c.loop-places-test.branch [
      | then-loop-places-test+then-s-places w ↦ inr w.if-s-places.true
      | else-loop-places-test w ↦ inl w.loop-places-test.false
    ])
    c.in_default.not-None
    in
    record { result_value = f.0; neat = f.1 }
