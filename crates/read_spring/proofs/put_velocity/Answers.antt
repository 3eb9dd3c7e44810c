-- `read_spring::put_velocity` meets its contract.
use Rattle.read_spring.proofs.SpringLaws.{velocity_present}
use Rattle.read_spring.proofs.put_velocity.Goals as goal

pub returns-in-Is : goal.returns-in-Is
returns-in-Is c =
    λ lo hi v h. velocity_present c.args.text.now c.args.at lo hi v _ (rw c.in-Some.is at h) _
    c.requires.0.short c.put_byte-value_at.ensures (rw c.in-Is.is at c.parse_value.ensures)
