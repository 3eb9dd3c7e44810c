-- `back_easings::easings::put_u32_unless` meets its contract.
use borrow.Author.Tests.{eq-eqb, ne_eqb}
use Rattle.digits.specs.Numeral.{counted}
use Rattle.pieces.specs.Pieces.{a_numeral}
use Rattle.fresh.specs.Fresh.{u32}
use Rattle.back_copying.proofs.CopyLaws.{one_piece}
use Rattle.back_easings.proofs.PairLaws.{omitted, not_omitted}
use Rattle.back_easings.proofs.easings.put_u32_unless.Goals as goal

pub returns-else-n-absent : goal.returns-else-n-absent
returns-else-n-absent c =
    let args = c.args in
    λ m e. omitted args.first (m, u32 args.n) (eq-eqb _ _ c.if-n-absent.false)

pub returns-then-n-absent : goal.returns-then-n-absent
unfolding u32
returns-then-n-absent c =
    let args = c.args in
    λ m e. not_omitted args.first m (u32 args.n) (ne_eqb _ _ c.if-n-absent.true) e c.put_pair_name.ensures
    (one_piece (a_numeral counted args.n) c.put_count.ensures)
