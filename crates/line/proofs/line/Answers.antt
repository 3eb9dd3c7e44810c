-- `line::line` meets its contract: each way out is a case of the definition.
use Rattle.error.specs.Answer.{line_values}
use Rattle.error.proofs.AnswerLaws.{with_values}
use Rattle.std.proofs.Common.{sym, ◌∙◌}
use Rattle.line.proofs.PutLaws.{found, refused}
use Rattle.line.proofs.line.Goals as goal

pub returns-in-Shut : goal.returns-in-Shut
returns-in-Shut c =
    let the_parts = with_values line_values (sym (refused _ _ _ _ (sym c.in-Shut.is ∙ c.open_text.ensures))) in record {
      out_after = the_parts.0;
      values = the_parts.1;
    }

pub returns-in-At : goal.returns-in-At
returns-in-At c =
    let o = sym c.in_default.is ∙ c.open_text.ensures in
    let l = rw c.in-At.is at c.find_record.ensures in
    let the_parts = with_values line_values ((rw c.part.ensures at c.place_line.ensures) ∙ sym (found _ _ _ _ o l)) in record {
      out_after = the_parts.0;
      values = the_parts.1;
    }

pub returns-in-Nothing : goal.returns-in-Nothing
returns-in-Nothing c =
    let o = sym c.in_default.is ∙ c.open_text.ensures in
    let l = rw c.in-Nothing.is at c.find_record.ensures in
    let the_parts = with_values line_values (sym (found _ _ _ _ o l)) in record {
      out_after = the_parts.0;
      values = the_parts.1;
    }

pub returns-in-NoSheet : goal.returns-in-NoSheet
returns-in-NoSheet c =
    let o = sym c.in_default.is ∙ c.open_text.ensures in
    let l = rw c.in-NoSheet.is at c.find_record.ensures in
    let the_parts = with_values line_values (sym (found _ _ _ _ o l)) in record {
      out_after = the_parts.0;
      values = the_parts.1;
    }
