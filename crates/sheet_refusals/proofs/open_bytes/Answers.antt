-- `sheet_refusals::open_bytes` meets its contract.
use mathlib.Core.Path.{sym, ◌∙◌}
use Rattle.sheet_refusals.proofs.OpenLaws as laws
use Rattle.sheet_refusals.proofs.open_bytes.Goals as goal

pub returns-then-is_sheet : goal.returns-then-is_sheet
returns-then-is_sheet c = laws.sheet_or_not _ _ (sym c.if-is_sheet.true ∙ c.is_sheet.ensures)

pub returns : goal.returns
returns c = laws.sheet_or_not _ _ (sym c.if-is_sheet.false ∙ c.is_sheet.ensures)
