-- `sheet_refusals::open_text` meets its contract: each way out is one case of the definition.
use Rattle.sheet_refusals.proofs.OpenLaws as laws
use Rattle.sheet_refusals.proofs.open_text.Goals as goal

pub returns-then-text-gt-TEXT_LIMIT : goal.returns-then-text-gt-TEXT_LIMIT
returns-then-text-gt-TEXT_LIMIT c = laws.too_long _ c.if-text-gt-TEXT_LIMIT.true

pub returns-in-Some : goal.returns-in-Some
returns-in-Some c = laws.not-long _ c.if-text-gt-TEXT_LIMIT.false c.in-Some.ensures

pub returns : goal.returns
returns c = laws.not-long _ c.if-text-gt-TEXT_LIMIT.false c.in_default.ensures
