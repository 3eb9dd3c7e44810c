-- `back_leaves::frames::copy_time` meets its contract.
use native.Mathlib.Omega.{arith}
use Rattle.ast.specs.Tree as Tree
use Rattle.sheet.specs.Sheet.{time_cases, split_time}
use Rattle.fresh.specs.Fresh.{time}
use Rattle.back_copying.proofs.CopyLaws.{read-put, in_case}
use Rattle.back_leaves.proofs.frames.copy_time.Goals as goal

pub returns-then-k-eq0 : goal.returns-then-k-eq0
returns-then-k-eq0 c =
    in_case time_cases split_time time 0 c.take_byte-k.ensures.reads c.if-k-eq0.true
    (read-put (λ b. time (Tree.percent b)) c.take_field-x.ensures.reads c.put_percentage.ensures)

pub returns : goal.returns
unfolding time
returns c =
    in_case time_cases split_time time 1 c.take_byte-k.ensures.reads (omega (arith, c.take_byte-k.ensures.small, c.if-k-eq0.false))
    c.copy_f32.ensures
