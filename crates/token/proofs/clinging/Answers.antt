-- `token::clinging` meets its contract.
use mathlib.Core.Bool.{false, true}
use mathlib.Core.Path.{refl, sym, ◌∙◌}
use lib.Dec.{eqb}
use borrow.Author.Tests.{eq-eqb, ne_eqb}
use Rattle.token.proofs.LexLaws.{clings_is}
use Rattle.token.proofs.clinging.Goals as goal

pub returns-then-in_class : goal.returns-then-in_class
returns-then-in_class c =
    let args = c.args in
    clings_is args.t.now args.point args.suffix args.n true _ _ _ _
    (rw (sym c.byte_at.ensures) (sym c.in_class.ensures ∙ c.if-in_class.true)) refl refl refl refl

pub returns-then-point : goal.returns-then-point
returns-then-point c =
    let args = c.args in
    clings_is
    args.t.now
    args.point
    args.suffix
    args.n
    false true _ _ _
    (rw (sym c.byte_at.ensures) (sym c.in_class.ensures ∙ c.if-in_class.false))
    c.if-point.true
    refl refl refl

pub returns-then-suffix : goal.returns-then-suffix
returns-then-suffix c =
    let args = c.args in
    clings_is
    args.t.now
    args.point
    args.suffix
    args.n
    false false true _ _
    (rw (sym c.byte_at.ensures) (sym c.in_class.ensures ∙ c.if-in_class.false))
    c.if-point.false
    c.if-suffix.true
    refl refl

pub returns-then-byte_at-eq46 : goal.returns-then-byte_at-eq46
returns-then-byte_at-eq46 c =
    let args = c.args in
    clings_is
    args.t.now
    args.point
    args.suffix
    args.n
    false false false true
    (eqb c.byte_at-then-byte_at-eq46.result 46)
    (rw (sym c.byte_at.ensures) (sym c.in_class.ensures ∙ c.if-in_class.false))
    c.if-point.false
    c.if-suffix.false
    (eq-eqb _ 46 (sym c.byte_at-2.ensures ∙ c.if-byte_at-eq46.true))
    (rw c.byte_at-then-byte_at-eq46.ensures)

pub returns : goal.returns
returns c =
    let args = c.args in
    clings_is
    args.t.now
    args.point
    args.suffix
    args.n
    false false false false _
    (rw (sym c.byte_at.ensures) (sym c.in_class.ensures ∙ c.if-in_class.false))
    c.if-point.false
    c.if-suffix.false
    (ne_eqb _ 46 (λ q. c.if-byte_at-eq46.false (c.byte_at-2.ensures ∙ q)))
    refl
