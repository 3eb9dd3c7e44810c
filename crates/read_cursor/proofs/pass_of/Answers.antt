-- `read_cursor::pass_of` meets its contract.
use native.Mathlib.Numerals.{add-one}
use Rattle.read_cursor.proofs.CursorLaws.{closing_some}
use borrow.Author.Tests.{ne_eqb}
use mathlib.Core.Path.{sym, ◌∙◌}
use Rattle.grammar.specs.Rule.{weigh}
use Rattle.read_cursor.proofs.pass_of.Goals as goal

pub returns-then-b-eq0 : goal.returns-then-b-eq0
unfolding weigh
returns-then-b-eq0 c t n = rw (c.in-Mark.is, c.if-b-eq0.true)

pub returns-then-d-eq0 : goal.returns-then-d-eq0
unfolding weigh
returns-then-d-eq0 c t n = rw (c.in-Mark.is, ne_eqb _ _ c.if-b-eq0.false, sym c.has.ensures ∙ c.if-has.true, c.if-d-eq0.true)

pub returns-then-has : goal.returns-then-has
unfolding weigh
returns-then-has c t n =
    rw
    (c.in-Mark.is, ne_eqb _ _ c.if-b-eq0.false, sym c.has.ensures ∙ c.if-has.true, closing_some _ c.if-d-eq0.false)

pub returns-then-has-2 : goal.returns-then-has-2
unfolding weigh
returns-then-has-2 c t n =
    rw (
      c.in-Mark.is,
      ne_eqb _ _ c.if-b-eq0.false,
      sym c.has.ensures ∙ c.if-has.false,
      sym c.has-in-Mark.ensures ∙ c.if-has-2.true,
      add-one,
    )

pub returns-else-has-2 : goal.returns-else-has-2
unfolding weigh
returns-else-has-2 c t n =
    rw (
      c.in-Mark.is,
      ne_eqb _ _ c.if-b-eq0.false,
      sym c.has.ensures ∙ c.if-has.false,
      sym c.has-in-Mark.ensures ∙ c.if-has-2.false,
    )

pub returns-in-Name : goal.returns-in-Name
unfolding weigh
returns-in-Name c t n = rw c.in-Name.is

pub returns-in-Num : goal.returns-in-Num
unfolding weigh
returns-in-Num c t n = rw c.in-Num.is

pub returns-in-Quoted : goal.returns-in-Quoted
unfolding weigh
returns-in-Quoted c t n = rw c.in-Quoted.is
