-- `convert::convert` meets its contract: what is shut is refused so, and an open sheet is converted.
use Rattle.error.specs.Answer.{check_values}
use Rattle.error.proofs.AnswerLaws.{with_values}
use mathlib.Core.Path.{sym, ◌∙◌}
use Rattle.convert.proofs.WalkLaws.{is_refused, is_sheet, is_converted}
use Rattle.convert.proofs.convert.Goals as goal

pub returns-in-Shut : goal.returns-in-Shut
returns-in-Shut c =
    let the_parts = with_values check_values (is_refused _ _ (sym c.in-Shut.is ∙ c.open_sheet.ensures)) in record {
      sheet_after = the_parts.0;
      values = the_parts.1;
    }

pub convert_records-requires : goal.convert_records-requires
convert_records-requires c = is_sheet _ _ (sym c.in_default.is ∙ c.open_sheet.ensures)

pub returns : goal.returns
returns c =
    let the_parts = with_values check_values (is_converted _ _ (sym c.in_default.is ∙ c.open_sheet.ensures)
    c.convert_records.ensures) in record {
      sheet_after = the_parts.0;
      values = the_parts.1;
    }
