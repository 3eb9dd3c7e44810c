-- `token::nest_mark` meets its contract.
use mathlib.Core.Bool.{false, true}
use mathlib.Core.Path.{refl, sym, ◌∙◌}
use Rattle.token.proofs.SplitLaws.{depth_is, mark_is}
use Rattle.token.specs.Means.{held}
use Rattle.token.proofs.nest_mark.Goals as goal

pub returns-then-has : goal.returns-then-has
returns-then-has c =
    let args = c.args in
    depth_is _ _ (mark_is args.b (held args.words.now args.depth) true _ (sym c.has.ensures ∙ c.if-has.true) refl)
    c.take_opener.new.words c.take_opener.result c.take_opener.ensures

pub returns-then-has-2 : goal.returns-then-has-2
returns-then-has-2 c =
    let args = c.args in
    depth_is _ _
    (mark_is args.b (held args.words.now args.depth) false true (sym c.has.ensures ∙ c.if-has.false)
    (sym c.has-2.ensures ∙ c.if-has-2.true))
    args.words.now
    c.take_closer.result
    c.take_closer.ensures

pub returns : goal.returns
returns c =
    record {
      is = mark_is c.args.b (held c.args.words.now c.args.depth) false false
          (sym c.has.ensures ∙ c.if-has.false) (sym c.has-2.ensures ∙ c.if-has-2.false);
      few = c.requires.1;
    }
