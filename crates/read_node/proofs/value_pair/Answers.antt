-- `read_node::value_pair` meets its contract.
use Rattle.read_node.proofs.EndsLaws.{pair-behind}
use Rattle.read_node.proofs.value_pair.Goals as goal

pub returns-in-Is-both : goal.returns-in-Is-both
returns-in-Is-both c =
    let args = c.args in
    pair-behind
    args.text.now
    args.c
    args.sheet.now
    _ _
    args.out
    _
    (rw c.in-Is.is at c.parse_value.ensures)
    _
    (rw c.in-Is-both.is at c.both.ensures)
    c.parse_value-in-Is-both.new.sheet
    c.parse_value-in-Is-both.result
    c.parse_value-in-Is-both.ensures
