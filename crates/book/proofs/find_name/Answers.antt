-- `book::find_name` meets its contract.
use mathlib.Core.Path.{sym, ◌∙◌}
use native.Mathlib.Omega.{arith}
use Rattle.books.specs.Book.{names}
use Rattle.book.proofs.TableLaws.{row_name, names-long, search_here, search_past, search_end}
use Rattle.book.proofs.find_name.Goals as goal

pub returns-then-is_word : goal.returns-then-is_word
returns-then-is_word c xs r h =
    let args = c.args in
    let g = row_name r c.loop-k.k (omega arith) in
    let e = rw (c.name.ensures, g) at c.is_word.ensures in
    sym (c.loop-k.invariant xs r h
    ∙ search_here (names xs) args.word.now args.n c.loop-k.k (rw (names-long xs) h) c.loop-k-test.true
    (sym e ∙ c.if-is_word.true))

pub loop-k-preserved : goal.loop-k-preserved
loop-k-preserved c =
    let args = c.args in
    λ xs r h.
    let g = row_name r c.loop-k.k (omega arith) in
    let e = rw (c.name.ensures, g) at c.is_word.ensures in
    c.loop-k.invariant xs r h
    ∙ search_past (names xs) args.word.now args.n c.loop-k.k (rw (names-long xs) h) c.loop-k-test.true
    (sym e ∙ c.if-is_word.false)

pub returns : goal.returns
returns c xs r h =
    let args = c.args in
    sym (c.loop-k.invariant xs r h
    ∙ search_end (names xs) args.word.now args.n c.loop-k.k (rw (names-long xs) h) (omega arith))
