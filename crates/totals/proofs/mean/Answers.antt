-- `totals::mean` meets its contract.
use Rattle.error.specs.Answer.{mean_values}
use Rattle.error.proofs.AnswerLaws.{and_values}
use mathlib.Core.Path.{sym, ◌∙◌}
use native.Mathlib.Omega.{arith}
use Rattle.totals.proofs.MeanLaws.{mean-over, mean-records, mean-entries, records_fit}
use Rattle.totals.proofs.mean.Goals as goal

pub returns-then-over_limit : goal.returns-then-over_limit
returns-then-over_limit c =
    let the_parts = and_values mean_values (mean-over _ _ (sym c.over_limit.ensures ∙ c.if-over_limit.true)) in record {
      value = the_parts.0;
      values = the_parts.1;
    }

pub overflow_cast-records : goal.overflow_cast-records
overflow_cast-records c = omega (arith, c.sum-records.ensures, records_fit c.args.totals.now 0 (sym c.over_limit.ensures ∙ c.if-over_limit.false))

pub returns-then-which-eq0 : goal.returns-then-which-eq0
returns-then-which-eq0 c =
    let the_parts = and_values mean_values (mean-records _ _ (sym c.over_limit.ensures ∙ c.if-over_limit.false) c.if-which-eq0.true
    (rw c.sum-records.ensures at c.quotient.ensures)) in record {
      value = the_parts.0;
      values = the_parts.1;
    }

pub returns : goal.returns
returns c =
    let the_parts = and_values mean_values (mean-entries _ _ (sym c.over_limit.ensures ∙ c.if-over_limit.false) c.if-which-eq0.false
    c.quotient-2.ensures) in record {
      value = the_parts.0;
      values = the_parts.1;
    }
