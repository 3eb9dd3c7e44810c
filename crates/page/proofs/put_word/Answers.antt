-- `page::put_word` meets its contract.
use mathlib.Core.Path.{◌∙◌}
use Rattle.text.proofs.WriteLaws.{puts_then}
use Rattle.page.proofs.PageLaws.{word-at}
use Rattle.page.proofs.put_word.Goals as goal

pub loop-b-preserved : goal.loop-b-preserved
loop-b-preserved c = (
  c.put-end.auto.out ∙ c.loop-b.invariant.0,
  λ after e p. c.loop-b.invariant.1 after e
      (rw (word-at c.args.word.now c.loop-b.b-index c.loop-b-test.true) (puts_then c.put-end.ensures p)),
)
