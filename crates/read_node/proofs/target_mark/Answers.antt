-- `read_node::target_mark` meets its contract.
use Rattle.read_node.proofs.EndsLaws.{no_colon, no_target, target_took}
use Rattle.read_node.proofs.target_mark.Goals as goal

pub returns-in-Missing : goal.returns-in-Missing
returns-in-Missing c =
    let args = c.args in
    no_target args.text.now args.c _ (rw c.in-Missing.is at c.word_before.ensures)

pub returns-in-Missing-mark : goal.returns-in-Missing-mark
returns-in-Missing-mark c =
    let args = c.args in
    no_colon args.text.now args.c _ c.in-Is.target
    (rw c.in-Is.is at c.word_before.ensures).0 _
    (rw c.in-Missing-mark.is at c.mark.ensures)

pub returns-in-Is-mark : goal.returns-in-Is-mark
returns-in-Is-mark c =
    let args = c.args in
    let t = rw c.in-Is.is at c.word_before.ensures in
    target_took
    args.text.now
    args.c
    _
    c.in-Is.target
    t.0
    _
    t.1
    (rw c.in-Is-mark.is at c.mark.ensures)
