-- `read_tokens::count_from` meets its contract.
use mathlib.Core.Path.{sym, ◌∙◌}
use Rattle.read_tokens.proofs.CountLaws.{counted-all}
use Rattle.read_tokens.proofs.CountLaws.{counted_next}
use Rattle.read_tokens.proofs.count_from.Goals as goal

pub loop-m-preserved : goal.loop-m-preserved
loop-m-preserved c =
    let args = c.args in
    counted_next
    args.text.now
    args.c
    c.loop-m.m
    c.loop-m.n
    c.loop-m.invariant
    c.advance-m.result
    c.advance-m.ensures
    (sym (c.sees.ensures args.text.now c.loop-m.invariant.ready) ∙ c.loop-m-test.true)

pub returns : goal.returns
returns c =
    let args = c.args in
    counted-all
    args.text.now
    args.c
    c.loop-m.m
    c.loop-m.n
    c.loop-m.invariant
    (sym (c.sees.ensures args.text.now c.loop-m.invariant.ready) ∙ c.loop-m-test.false)
