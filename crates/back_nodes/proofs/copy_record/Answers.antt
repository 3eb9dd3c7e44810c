-- `back_nodes::copy_record` meets its contract: the kind and the start, then the fields.
use mathlib.Core.Logic.{inl, inr}
use native.Mathlib.Omega.{arith}
use Rattle.back_nodes.proofs.copy_record.Goals.{in_default-via-then-k-lt3, in_default-via-else-k-lt3+else-k-lt7}
use Rattle.back_nodes.proofs.copy_record.Goals as goal

pub copy_leaf-requires : goal.copy_leaf-requires
copy_leaf-requires c = (
  elim c.in_default.branch [
    | in_default-via-then-k-lt3 w ↦ inl (omega arith)
    | in_default-via-else-k-lt3+else-k-lt7 w ↦ inr (omega arith)
  ],
  c.take_kind-k.ensures.kind_at.small,
)

pub returns-in-3-to-6 : goal.returns-in-3-to-6
returns-in-3-to-6 c = c.copy_head-head.ensures _ _ _ c.take_kind-k.ensures _ _ _ c.holding.ensures

pub returns-in_default : goal.returns-in_default
returns-in_default c = c.copy_leaf.ensures _ _ c.take_kind-k.ensures
