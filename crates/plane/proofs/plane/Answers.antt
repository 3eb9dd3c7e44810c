-- `plane::plane` meets its contract: the text's refusals, then 20, then what `carry` answers.
use Rattle.error.specs.Answer.{line_values}
use Rattle.error.proofs.AnswerLaws.{with_values}
use Rattle.plane.proofs.StartLaws.{carries_wide}
use mathlib.Core.Path.{sym, ◌∙◌}
use Rattle.plane.proofs.AnswerLaws.{planes_within, plane_shut, plane_none, plane_some}
use Rattle.plane.proofs.plane.Goals as goal

pub returns-in-Shut : goal.returns-in-Shut
returns-in-Shut c =
    let args = c.args in
    let the_parts = with_values line_values (plane_shut args.text.now args.sheet.now args.out.now
    (sym c.in-Shut.is ∙ c.open_text.ensures)) in record {
      out_after = the_parts.0;
      values = the_parts.1;
    }

pub invariant_of-source-clause-long : goal.invariant_of-source-clause-long
invariant_of-source-clause-long c =
    let m = rw c.in-Some.is at c.sheet_shape.ensures in
    planes_within (carries_wide _ _ m.0 _ _ m.1 m.2 m.3)

pub carry-requires : goal.carry-requires
carry-requires c =
    let m = rw c.in-Some.is at c.sheet_shape.ensures in
    carries_wide _ _ m.0 _ _ m.1 m.2 m.3

pub returns-in-Some : goal.returns-in-Some
returns-in-Some c =
    let args = c.args in
    let m = rw c.in-Some.is at c.sheet_shape.ensures in
    let the_parts = with_values line_values (c.carry.ensures (carries_wide _ _ m.0 _ _ m.1 m.2 m.3)
    ∙ plane_some args.text.now args.sheet.now args.out.now m.0
    (sym c.in_default.is ∙ c.open_text.ensures) m.1) in record {
      out_after = the_parts.0;
      values = the_parts.1;
    }

pub returns-in-None : goal.returns-in-None
returns-in-None c =
    let args = c.args in
    let the_parts = with_values line_values (plane_none args.text.now args.sheet.now args.out.now
    (sym c.in_default.is ∙ c.open_text.ensures)
    (rw c.in-None.is at c.sheet_shape.ensures)) in record {
      out_after = the_parts.0;
      values = the_parts.1;
    }
