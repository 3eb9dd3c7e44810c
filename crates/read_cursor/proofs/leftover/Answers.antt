use mathlib.Core.Path.{◌∙◌}
use mathlib.Core.Path.{sym}
use Rattle.read_cursor.proofs.CursorLaws.{left_none, left_some}
use Rattle.read_cursor.proofs.leftover.Goals as goal

pub returns-then-left : goal.returns-then-left
returns-then-left c = sym (left_none _ (sym c.noted-left.ensures ∙ c.if-left.true))

pub returns : goal.returns
returns c = rw (c.noted-left.ensures, left_some _ (λ q. c.if-left.false (c.noted-left.ensures ∙ q)))
