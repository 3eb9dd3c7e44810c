-- `read_spring::parse_spring` meets its contract.
use Rattle.read_spring.proofs.SpringLaws.{spring_no_ends, spring_refused, spring_went}
use Rattle.read_spring.proofs.parse_spring.Goals as goal

pub returns-in-Refused : goal.returns-in-Refused
returns-in-Refused c = spring_no_ends (rw c.in-Refused.is at c.parse_ends.ensures)

pub returns-in-Refused-spring_fields : goal.returns-in-Refused-spring_fields
returns-in-Refused-spring_fields c =
    spring_refused (rw c.in-Is.is at c.parse_ends.ensures)
    (rw c.in-Refused-spring_fields.is at c.spring_fields.ensures)

pub returns-in-Is-spring_fields : goal.returns-in-Is-spring_fields
returns-in-Is-spring_fields c =
    spring_went (rw c.in-Is.is at c.parse_ends.ensures)
    (rw c.in-Is-spring_fields.is at c.spring_fields.ensures) c.put_spring_fields.ensures
