-- `token_c::token_split` meets its contract; a text over the limit is refused before `split` sees it.
use Rattle.std.proofs.Common.{refl, sym, lt-ltb, le-ltb}
use Rattle.token_c.specs.Means.{limited}
use Rattle.token_c.proofs.token_split.Goals as goal

pub returns-then-text-gt-TEXT_LIMIT : goal.returns-then-text-gt-TEXT_LIMIT
unfolding limited
returns-then-text-gt-TEXT_LIMIT c = rw (lt-ltb _ _ c.if-text-gt-TEXT_LIMIT.true) (record { number = c.number_of.ensures; words = refl })

pub returns-in-Accepted : goal.returns-in-Accepted
unfolding limited
returns-in-Accepted c =
    rw (le-ltb _ _ c.if-text-gt-TEXT_LIMIT.false, sym c.in-Accepted.ensures) (record { number = refl; words = refl })

pub returns-in-Refused : goal.returns-in-Refused
unfolding limited
returns-in-Refused c =
    rw (le-ltb _ _ c.if-text-gt-TEXT_LIMIT.false, sym c.in-Refused.ensures)
    (record { number = c.number_of-in-Refused.ensures; words = refl })
