-- Demand 3, closed: the three laws of the grammar are those of `law_limits`.
use Rattle.law_limits.proofs.Limits.{parses_clean, parses_fits, parses_small}
use Rattle.script.specs.Claim.{Demand3}
use Rattle.script.proofs.Whole.{Claimed}
use Rattle.script.proofs.Whole as whole

pub claim : Claimed
claim = whole.claim (λ t ns k e. parses_clean t ns e) (λ t ns k h e. parses_fits t ns h e) (λ t ns k h e. parses_small t ns h e)

pub demand3 : Demand3
demand3 = whole.demand3 (λ t ns k e. parses_clean t ns e) (λ t ns k h e. parses_fits t ns h e) (λ t ns k h e. parses_small t ns h e)
