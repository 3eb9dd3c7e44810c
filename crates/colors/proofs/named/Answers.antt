-- `colors::named` meets its contract: the place of a name tells its colour.
use mathlib.Core.Option.{some}
use mathlib.Core.Path.{ap, ◌∙◌}
use Rattle.colors.specs.Means.{rgba_of}
use Rattle.colors.proofs.NameLaws.{css_none, css_inside, css_at}
use Rattle.colors.proofs.named.Goals as goal

pub returns-in_err-i : goal.returns-in_err-i
returns-in_err-i c = ap rgba_of c.from_residual.ensures ∙ css_none _ _ c.find.ensures c.in_err-i.was

pub color_at-requires : goal.color_at-requires
color_at-requires c = css_inside _ _ c.find.ensures _ c.in_ok-i.was

pub returns : goal.returns
returns c = ap some c.color_at.ensures ∙ css_at _ _ c.find.ensures _ c.in_ok-i.was
