-- `text::is_word` meets its contract.
use mathlib.Core.Path.{◌∙◌}
use Rattle.text.proofs.WordLaws.{pointwise-same}
use Rattle.text.proofs.is_word.Goals as goal

pub returns : goal.returns
returns c = c.eq.ensures ∙ pointwise-same c.args.w.now c.args.word.now
