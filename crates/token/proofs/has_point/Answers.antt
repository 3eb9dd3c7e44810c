-- `token::has_point` meets its contract.
use mathlib.Core.Path.{sym, ◌∙◌}
use native.Mathlib.Numerals.{add-one}
use borrow.Author.Tests.{eq-eqb, ne_eqb}
use Rattle.token.specs.Token.{point_at}
use Rattle.token.proofs.has_point.Goals as goal

pub returns-then-byte_at-eq46 : goal.returns-then-byte_at-eq46
unfolding point_at
returns-then-byte_at-eq46 c =
    rw (eq-eqb _ 46 (sym c.byte_at.ensures ∙ c.if-byte_at-eq46.true))
    (c.in_class.ensures ∙ (rw (c.byte_at-then-byte_at-eq46.ensures, add-one)))

pub returns-else-byte_at-eq46 : goal.returns-else-byte_at-eq46
unfolding point_at
returns-else-byte_at-eq46 c = rw (ne_eqb _ 46 (λ q. c.if-byte_at-eq46.false (c.byte_at.ensures ∙ q))) (ne_eqb _ 46 c.if-byte_at-eq46.false)
