-- `read_node::parse_ends` meets its contract.
use native.Mathlib.Omega.{arith}
use Rattle.read_node.proofs.EndsLaws.{ends-behind}
use lib.ListN.{length}
use Rattle.read_node.proofs.parse_ends.Goals as goal

pub value_pair-requires : goal.value_pair-requires
value_pair-requires c =
    let pre = c.requires in
    let p = (c.put_span-from_at.ensures 0).place in (
      (rw c.in-Is.is at c.target_mark.ensures).ready,
      pre.1.short,
      omega (arith, pre.1.low),
    )

pub returns-in-Is : goal.returns-in-Is
returns-in-Is c =
    let args = c.args in
    ends-behind
    args.text.now
    args.c
    _
    c.in-Is.target
    (rw c.in-Is.is at c.target_mark.ensures)
    args.sheet.now
    _
    c.value_pair.new.sheet
    args.out
    _
    (c.put_span-from_at.ensures (length args.text.now))
    c.value_pair.result
    c.value_pair.ensures
