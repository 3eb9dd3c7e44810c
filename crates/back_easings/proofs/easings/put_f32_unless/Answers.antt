-- `back_easings::easings::put_f32_unless` meets its contract.
use borrow.Author.Tests.{eq-eqb, ne_eqb}
use Rattle.fresh.specs.Fresh.{f32}
use Rattle.back_easings.proofs.PairLaws.{omitted, not_omitted}
use Rattle.back_easings.proofs.easings.put_f32_unless.Goals as goal

pub returns-else-bits-absent : goal.returns-else-bits-absent
returns-else-bits-absent c =
    let args = c.args in
    λ n e. omitted args.first (n, f32 args.bits) (eq-eqb _ _ c.if-bits-absent.false)

pub returns-then-bits-absent : goal.returns-then-bits-absent
returns-then-bits-absent c =
    let args = c.args in
    λ n e. not_omitted args.first n (f32 args.bits) (ne_eqb _ _ c.if-bits-absent.true) e c.put_pair_name.ensures
    c.put_f32.ensures
