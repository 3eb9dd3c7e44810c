use mathlib.Core.Path.{sym, ◌∙◌}
use Rattle.token.proofs.PieceLaws.{why_digit, why_other}
use Rattle.token.proofs.why.Goals as goal

pub returns-then-in_class : goal.returns-then-in_class
returns-then-in_class c =
    λ x e. c.why_number.ensures x
    (why_digit c.args.t.now
    (rw (sym c.byte_at.ensures) (sym c.in_class.ensures ∙ c.if-in_class.true)) x e)

pub returns : goal.returns
returns c = why_other c.args.t.now (rw (sym c.byte_at.ensures) (sym c.in_class.ensures ∙ c.if-in_class.false))
