-- `colors::value_at` meets its contract: the table has the definition's numbers, which is computed.
use mathlib.Core.Path.{refl}
use Rattle.colors.specs.Css.{css_colors}
use Rattle.colors.specs.Means.{values_in}
use Rattle.colors.proofs.value_at.Goals as goal

pub returns : goal.returns
unfolding values_in css_colors
returns c = refl
