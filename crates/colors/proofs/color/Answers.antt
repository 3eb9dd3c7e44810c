-- `colors::color` meets its contract: each way out is one law of colours.
use Rattle.error.specs.Answer.{color_values}
use Rattle.error.proofs.AnswerLaws.{and_values}
use mathlib.Core.Path.{ap, sym, ◌∙◌}
use Rattle.colors.specs.Means.{rgba_of}
use Rattle.colors.proofs.ColorLaws.{color_given, color_refused}
use Rattle.colors.proofs.color.Goals as goal

pub returns-in-Some : goal.returns-in-Some
returns-in-Some c =
    let the_parts = and_values color_values
    (color_given c.args.string.now (sym (ap rgba_of c.in-Some.is) ∙ c.color_bytes.ensures)) in record {
      out_after = the_parts.0;
      values = the_parts.1;
    }

pub returns-in-None : goal.returns-in-None
returns-in-None c =
    let the_parts = and_values color_values
    (color_refused c.args.string.now (sym (ap rgba_of c.in-None.is) ∙ c.color_bytes.ensures)) in record {
      out_after = the_parts.0;
      values = the_parts.1;
    }
