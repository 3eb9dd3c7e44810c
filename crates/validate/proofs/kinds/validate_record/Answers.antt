-- `validate::kinds::validate_record` meets its contract: a container's fields or a leaf's.
use Rattle.validate.proofs.kinds.validate_record.Goals as goal

pub returns-in-3-to-6 : goal.returns-in-3-to-6
returns-in-3-to-6 c = λ from start b. c.validate_container.ensures _ _ from start b
