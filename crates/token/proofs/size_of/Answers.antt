use native.Mathlib.Omega.{arith}
use borrow.Author.Tests.{eq-eqb, ne_eqb}
use mathlib.Core.Bool.{false, true}
use mathlib.Core.Path.{refl, sym, ◌∙◌}
use Rattle.token.proofs.LexLaws.{run_fits, lex_is}
use Rattle.text.specs.Bytes.{is_digit}
use Rattle.token.proofs.size_of.Goals as goal

pub returns-then-in_class : goal.returns-then-in_class
returns-then-in_class c =
    let e = sym c.byte_at-b.ensures in
    rw (lex_is c.args.t.now true _ _ _ (rw e (sym c.in_class.ensures ∙ c.if-in_class.true)) refl refl refl)
    c.name_size.ensures

pub overflow_cast-run_end : goal.overflow_cast-run_end
overflow_cast-run_end c = omega (arith, run_fits is_digit c.args.t.now 0 (omega arith))

pub returns-then-in_class-2 : goal.returns-then-in_class-2
returns-then-in_class-2 c =
    let e = sym c.byte_at-b.ensures in
    rw (lex_is c.args.t.now false true _ _ (rw e (sym c.in_class.ensures ∙ c.if-in_class.false))
    (rw e (sym c.in_class-2.ensures ∙ c.if-in_class-2.true)) refl refl) c.written_size.ensures

pub returns-then-b-eq34 : goal.returns-then-b-eq34
returns-then-b-eq34 c =
    let e = sym c.byte_at-b.ensures in
    rw (lex_is c.args.t.now false false true _ (rw e (sym c.in_class.ensures ∙ c.if-in_class.false))
    (rw e (sym c.in_class-2.ensures ∙ c.if-in_class-2.false)) (eq-eqb _ 34 (e ∙ c.if-b-eq34.true)) refl)
    c.quoted_size.ensures

pub returns-then-is_mark : goal.returns-then-is_mark
returns-then-is_mark c =
    let e = sym c.byte_at-b.ensures in
    rw (lex_is c.args.t.now false false false true (rw e (sym c.in_class.ensures ∙ c.if-in_class.false))
    (rw e (sym c.in_class-2.ensures ∙ c.if-in_class-2.false)) (rw e (ne_eqb _ 34 c.if-b-eq34.false))
    (rw e (sym c.is_mark.ensures ∙ c.if-is_mark.true)))

pub returns : goal.returns
returns c =
    let e = sym c.byte_at-b.ensures in
    rw (lex_is c.args.t.now false false false false (rw e (sym c.in_class.ensures ∙ c.if-in_class.false))
    (rw e (sym c.in_class-2.ensures ∙ c.if-in_class-2.false)) (rw e (ne_eqb _ 34 c.if-b-eq34.false))
    (rw e (sym c.is_mark.ensures ∙ c.if-is_mark.false)))
