-- `token::take_closer` meets its contract; the last word is the closer that is awaited.
use mathlib.Core.Bool.{false, true}
use mathlib.Core.Path.{sym, ◌∙◌}
use native.Mathlib.Omega.{arith}
use borrow.Author.Tests.{eq-eqb, ne_eqb}
use Rattle.token.proofs.SplitLaws.{closes_none, closes_by}
use Rattle.token.proofs.take_closer.Goals as goal

pub returns-then-depth-eq0 : goal.returns-then-depth-eq0
returns-then-depth-eq0 c =
    let args = c.args in
    closes_none args.words.now args.depth args.b c.if-depth-eq0.true

pub returns-then-words-last : goal.returns-then-words-last
returns-then-words-last c =
    record {
      is = closes_by c.args.words.now c.args.depth c.args.b true c.if-depth-eq0.false
          (eq-eqb _ _ (sym (c.if-words-last.true ∙ c.wide.ensures)));
      few = omega (arith, c.requires.1);
    }

pub returns : goal.returns
returns c =
    let args = c.args in
    closes_by args.words.now args.depth args.b false c.if-depth-eq0.false
    (ne_eqb _ _ (λ q. c.if-words-last.false (sym (c.wide.ensures ∙ q))))
