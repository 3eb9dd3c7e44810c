-- `sheet_refusals::open_sheet` meets its contract: the text's refusal, or else that of the bytes.
use mathlib.Core.Path.{refl, ◌∙◌}
use Rattle.sheet_refusals.proofs.OpenLaws as laws
use Rattle.sheet_refusals.proofs.open_sheet.Goals as goal

pub returns-in-Open : goal.returns-in-Open
returns-in-Open c = laws.first_shut _ _ c.in-Open.ensures c.open_bytes.ensures

pub returns-in_default : goal.returns-in_default
returns-in_default c = laws.stays_shut _ _ c.in_default.not-Open ∙ laws.first_shut _ _ c.open_text.ensures refl
