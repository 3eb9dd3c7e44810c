-- `colors::named_color` meets its contract: of a name the first 24 bytes decide.
use mathlib.Core.Path.{◌∙◌}
use Rattle.text.proofs.WriteLaws.{puts_front}
use Rattle.colors.proofs.ColorLaws.{named_front}
use Rattle.colors.proofs.named_color.Goals as goal

pub returns : goal.returns
returns c = c.named.ensures ∙ named_front c.args.s.now _ (puts_front c.lower_into-n.ensures)
