-- `digits::middle_below` meets its contract: the bits below b have 24 binary digits w and k doublings, and the middle is
-- (2 w + 1) / 2 of those units.
use Rattle.digits.proofs.MiddleLaws.{middle_low, middle_high}
use Rattle.digits.proofs.middle_below.Goals as goal

pub returns-then-k-lt150 : goal.returns-then-k-lt150
returns-then-k-lt150 c =
    rw (c.from-half.ensures, c.from-tie.ensures, c.doublings-k.ensures)
    (middle_low c.args.bits c.requires.0 c.requires.1 (rw c.doublings-k.ensures at c.if-k-lt150.true))

pub returns-else-k-lt150 : goal.returns-else-k-lt150
returns-else-k-lt150 c =
    rw (c.from-half.ensures, c.from-tie.ensures, c.doublings-k.ensures)
    (middle_high c.args.bits c.requires.0 c.requires.1 (rw c.doublings-k.ensures at c.if-k-lt150.false))
