-- `validate::check` meets its contract: what is shut of the text or the list is refused so; else the bytes decide.
use Rattle.error.specs.Answer.{check_values}
use Rattle.error.proofs.AnswerLaws.{and_values}
use mathlib.Core.Path.{sym, ◌∙◌}
use lib.ListN.{length}
use Rattle.sheet_records.proofs.WalkLaws.{too_long}
use Rattle.validate.proofs.CheckLaws as laws
use Rattle.validate.proofs.check.Goals as goal

pub returns-in-Shut : goal.returns-in-Shut
returns-in-Shut c =
    let the_parts = and_values check_values
    (laws.refused_first _ _ _ c.open_text.ensures c.open_list.ensures
    (sym c.in-Shut.is ∙ c.earlier.ensures)) in record {
      value = the_parts.0;
      values = the_parts.1;
    }

pub returns-then-sheet-gt65535 : goal.returns-then-sheet-gt65535
returns-then-sheet-gt65535 c =
    let args = c.args in
    let the_parts = and_values check_values
    (laws.no_sheet args.list args.text.now args.sheet.now (too_long (length args.text.now) _ c.if-sheet-gt65535.true)
    ∙ laws.bytes_decide _ _ _ c.open_text.ensures c.open_list.ensures
    (sym c.in_default.is ∙ c.earlier.ensures)) in record {
      value = the_parts.0;
      values = the_parts.1;
    }

pub returns : goal.returns
returns c =
    let the_parts = and_values check_values
    (c.check_bytes.ensures
    ∙ laws.bytes_decide _ _ _ c.open_text.ensures c.open_list.ensures
    (sym c.in_default.is ∙ c.earlier.ensures)) in record {
      value = the_parts.0;
      values = the_parts.1;
    }
