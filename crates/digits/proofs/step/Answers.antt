-- `digits::step` meets its contract: the least number with these places has too many digits, or reads to another f32, or is the best.
use Rattle.digits.proofs.SearchLaws.{scale_low, scale_high, step_longer, step-none, step-taken}
use Rattle.digits.proofs.step.Goals as goal

pub past-n-requires : goal.past-n-requires
past-n-requires c = let r = c.requires in (r.fair_low, scale_low r, scale_high r)

pub returns-then-s-n : goal.returns-then-s-n
returns-then-s-n c = λ b h low high apart. step_longer c.requires h (c.past-n.ensures b low) c.if-s-n.true

pub past-end-requires : goal.past-end-requires
past-end-requires c = let r = c.requires in (r.fair_high, scale_low r, scale_high r)

pub returns-then-end-n : goal.returns-then-end-n
returns-then-end-n c =
    λ b h low high apart. step-none c.requires (c.past-n.ensures b low) (c.past-end.ensures _ high) low high apart
    c.if-end-n.true

pub returns : goal.returns
returns c =
    λ b h low high apart. step-taken c.requires (c.past-n.ensures b low) (c.past-end.ensures _ high) h low c.if-s-n.false
    c.if-end-n.false c.width_of-w.ensures
