-- `book::has_twice` meets its contract.
use mathlib.Core.Path.{refl, sym, ◌∙◌}
use native.Mathlib.Omega.{arith}
use Rattle.books.specs.Book.{repeated}
use Rattle.book.proofs.TableLaws.{twice_at, not_twice_at}
use Rattle.book.proofs.has_twice.Goals as goal

pub loop-k-init : goal.loop-k-init
unfolding repeated
loop-k-init c = λ xs r h. refl

pub returns-then-stands_before : goal.returns-then-stands_before
returns-then-stands_before c xs r h = twice_at xs c.loop-k.k (omega arith) (λ y e. sym c.if-stands_before.true ∙ c.stands_before.ensures xs r y e)

pub loop-k-preserved : goal.loop-k-preserved
loop-k-preserved c =
    λ xs r h. not_twice_at xs c.loop-k.k (omega arith) (λ y e. sym c.if-stands_before.false ∙ c.stands_before.ensures xs r y e)
    (c.loop-k.invariant xs r h)
