-- `read_fields::item_of` meets its contract.
use Rattle.grammar.specs.Fields.{item_of}
use borrow.Author.Tests.{ne_eqb}
use mathlib.Core.Path.{sym, ◌∙◌}
use Rattle.read_fields.proofs.item_of.Goals as goal

pub returns-then-has : goal.returns-then-has
unfolding item_of
returns-then-has c t n = rw (c.in-Mark.is, sym c.has.ensures ∙ c.if-has.true)

pub returns-then-b-eq44 : goal.returns-then-b-eq44
unfolding item_of
returns-then-b-eq44 c t n = rw (c.in-Mark.is, sym c.has.ensures ∙ c.if-has.false, c.if-b-eq44.true)

pub returns-then-b-eq59 : goal.returns-then-b-eq59
unfolding item_of
returns-then-b-eq59 c t n = rw (c.in-Mark.is, sym c.has.ensures ∙ c.if-has.false, ne_eqb _ _ c.if-b-eq44.false, c.if-b-eq59.true)

pub returns-else-b-eq59 : goal.returns-else-b-eq59
unfolding item_of
returns-else-b-eq59 c t n = rw (c.in-Mark.is, sym c.has.ensures ∙ c.if-has.false, ne_eqb _ _ c.if-b-eq44.false, ne_eqb _ _ c.if-b-eq59.false)

pub returns-in-Name : goal.returns-in-Name
unfolding item_of
returns-in-Name c t n = rw c.in-Name.is

pub returns-in-Num : goal.returns-in-Num
unfolding item_of
returns-in-Num c t n = rw c.in-Num.is

pub returns-in-Quoted : goal.returns-in-Quoted
unfolding item_of
returns-in-Quoted c t n = rw c.in-Quoted.is
