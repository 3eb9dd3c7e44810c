-- `back_spelling::is_name_like` meets its contract.
use Rattle.back_spelling.proofs.PageLaws.{no_letter, no_name, a_name_lem}
use Rattle.back_spelling.proofs.is_name_like.Goals as goal

pub returns-then-not-in_class : goal.returns-then-not-in_class
returns-then-not-in_class c = no_letter c.args.word.now c.in_class.ensures c.byte_at.ensures c.if-not-in_class.true

pub returns-then-not-all_are : goal.returns-then-not-all_are
returns-then-not-all_are c =
    no_name
    c.args.word.now
    c.in_class.ensures
    c.byte_at.ensures
    c.if-not-in_class.false
    c.all_are.ensures
    c.if-not-all_are.true

pub returns : goal.returns
returns c =
    a_name_lem
    c.args.word.now
    c.in_class.ensures
    c.byte_at.ensures
    c.if-not-in_class.false
    c.all_are.ensures
    c.if-not-all_are.false
    c.is_keyword.ensures
