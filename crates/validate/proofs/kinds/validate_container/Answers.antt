-- `validate::kinds::validate_container` meets its contract: a count alone, a group's fields or a stagger's.
use native.Mathlib.Omega.{arith}
use Rattle.validate.proofs.KindLaws as kind-laws
use Rattle.validate.proofs.kinds.validate_container.Goals as goal

pub returns-in-5 : goal.returns-in-5
returns-in-5 c =
    λ list t from start b. rw c.container.ensures
    (kind-laws.group_record list t b c.in-5.is c.take_group-x.ensures)

pub returns-in-6 : goal.returns-in-6
returns-in-6 c =
    λ list t from start b. rw c.container-in-6.ensures
    (kind-laws.stagger_record list t b c.validate_stagger.result c.in-6.is
    c.take_stagger-x.ensures
    c.validate_stagger.ensures)

pub returns-in_default : goal.returns-in_default
returns-in_default c =
    let pre = c.requires in
    λ list t from start b. rw c.container-in_default.ensures
    (kind-laws.count_record list t b pre (omega arith) (omega arith)
    c.take_field-count.ensures.reads)
