-- `convert::convert_record` meets its contract: what is noise is overwritten, and the record is passed.
use mathlib.Core.Path.{sym, ◌∙◌}
use Rattle.convert.proofs.WalkLaws.{overwritten, as_it_was}
use Rattle.convert.proofs.convert_record.Goals as goal

pub returns-then-holds_noise-clause-sheet_after : goal.returns-then-holds_noise-clause-sheet_after
returns-then-holds_noise-clause-sheet_after c = overwritten c.args.sheet.now c.args.at (sym c.holds_noise.ensures ∙ c.if-holds_noise.true)

pub returns-else-holds_noise-clause-sheet_after : goal.returns-else-holds_noise-clause-sheet_after
returns-else-holds_noise-clause-sheet_after c = as_it_was c.args.sheet.now c.args.at (sym c.holds_noise.ensures ∙ c.if-holds_noise.false)
