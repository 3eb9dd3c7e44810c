-- `limbs::whole` meets its contract.
use borrow.Author.Tests.{ltb-true, ltb-false}
use mathlib.Core.Path.{sym, ◌∙◌}
use native.Mathlib.Nat.{le_antisymm}
use Rattle.limbs.specs.LimbMeans.{val}
use Rattle.limbs.proofs.LongLaws.{rounds_down, rounds_up, rounds_even}
use Rattle.limbs.proofs.whole.Goals as goal

pub returns-then-less : goal.returns-then-less
returns-then-less c =
    let a = val c.args.a.now in
    let b = val c.args.b.now in
    rounds_down c.args.q a b c.requires.1 (ltb-true a b (sym c.less.ensures ∙ c.if-less.true))

pub returns-then-less-2 : goal.returns-then-less-2
returns-then-less-2 c =
    let a = val c.args.a.now in
    let b = val c.args.b.now in
    rounds_up c.args.q a b c.requires.1 (ltb-true b a (sym c.less-else-less.ensures ∙ c.if-less-2.true))

pub returns-else-less-2 : goal.returns-else-less-2
returns-else-less-2 c =
    let a = val c.args.a.now in
    let b = val c.args.b.now in
    rounds_even c.args.q a b c.requires.1
    (le_antisymm (ltb-false b a (sym c.less-else-less.ensures ∙ c.if-less-2.false))
    (ltb-false a b (sym c.less.ensures ∙ c.if-less.false)))
