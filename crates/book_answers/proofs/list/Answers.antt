-- `book_answers::list` meets its contract.
use lib.ListN.{take}
use Rattle.book_answers.proofs.AnswerLaws.{ring, in_order}
use Rattle.book_answers.proofs.list.Goals as goal

pub returns-then-ordered : goal.returns-then-ordered
returns-then-ordered c =
    let args = c.args in
    in_order args.out.now (take args.n args.from.now) c.if-ordered.true c.put.ensures

pub returns : goal.returns
returns c =
    let args = c.args in
    ring args.out.now (take args.n args.from.now) c.if-ordered.false
