-- `presets::is_valid_color` meets its contract.
use mathlib.Core.Path.{◌∙◌}
use Rattle.presets.proofs.ColorLaws.{names_are}
use Rattle.presets.proofs.is_valid_color.Goals as goal

pub returns : goal.returns
returns c = c.is_color.ensures ∙ (rw (c.part.ensures, names_are))
