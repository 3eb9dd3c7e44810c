-- `colors::is_color` meets its contract: the list decides which names they are.
use mathlib.Core.Path.{◌∙◌}
use Rattle.colors.proofs.ColorLaws.{first-list, second_list}
use Rattle.colors.proofs.is_color.Goals as goal

pub returns-then-list-eq1 : goal.returns-then-list-eq1
returns-then-list-eq1 c = c.is_valid_color.ensures ∙ first-list c.args.list _ c.if-list-eq1.true

pub returns : goal.returns
returns c = c.is_color.ensures ∙ (rw c.part.ensures (second_list c.args.list _ c.if-list-eq1.false))
