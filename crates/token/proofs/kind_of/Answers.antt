use borrow.Author.Tests.{eq-eqb, ne_eqb}
use mathlib.Core.Bool.{false, true}
use mathlib.Core.Path.{refl, sym, ◌∙◌}
use Rattle.token.proofs.PieceLaws.{kind_is}
use Rattle.token.proofs.kind_of.Goals as goal

pub returns-then-in_class : goal.returns-then-in_class
returns-then-in_class c = sym (kind_is c.args.b true _ _ (sym c.in_class.ensures ∙ c.if-in_class.true) refl refl)

pub returns-then-in_class-2 : goal.returns-then-in_class-2
returns-then-in_class-2 c =
    sym (kind_is c.args.b false true _ (sym c.in_class.ensures ∙ c.if-in_class.false)
    (sym c.in_class-2.ensures ∙ c.if-in_class-2.true) refl)

pub returns-then-b-eq34 : goal.returns-then-b-eq34
returns-then-b-eq34 c =
    sym (kind_is c.args.b false false true (sym c.in_class.ensures ∙ c.if-in_class.false)
    (sym c.in_class-2.ensures ∙ c.if-in_class-2.false)
    (eq-eqb _ 34 c.if-b-eq34.true))

pub returns : goal.returns
returns c =
    sym (kind_is c.args.b false false false (sym c.in_class.ensures ∙ c.if-in_class.false)
    (sym c.in_class-2.ensures ∙ c.if-in_class-2.false)
    (ne_eqb _ 34 c.if-b-eq34.false))
