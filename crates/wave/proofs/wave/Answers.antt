-- `wave::wave` meets its contract: each way out is one case of the definition.
use Rattle.error.specs.Answer.{check_values}
use Rattle.error.proofs.AnswerLaws.{with_values}
use mathlib.Core.Path.{sym}
use native.Mathlib.Omega.{arith}
use Rattle.drawing.proofs.WaveLaws as laws
use Rattle.wave.proofs.FillLaws as filling
use Rattle.wave.proofs.wave.Goals as goal

pub returns-then-kind-ge4 : goal.returns-then-kind-ge4
returns-then-kind-ge4 c =
    let the_parts = with_values check_values (sym (laws.no_kind _ _ _ c.if-kind-ge4.true)) in record {
      heights_after = the_parts.0;
      values = the_parts.1;
    }

pub returns-then-phase-ge256 : goal.returns-then-phase-ge256
returns-then-phase-ge256 c =
    let the_parts = with_values check_values (sym (laws.bad_phase c.args.kind c.args.phase _ (omega arith) c.if-phase-ge256.true)) in record {
      heights_after = the_parts.0;
      values = the_parts.1;
    }

pub returns-then-heights-lt256 : goal.returns-then-heights-lt256
returns-then-heights-lt256 c =
    let the_parts = with_values check_values (sym (laws.too_short _ _ _ c.if-kind-ge4.false c.if-phase-ge256.false c.if-heights-lt256.true)) in record {
      heights_after = the_parts.0;
      values = the_parts.1;
    }

pub returns : goal.returns
returns c =
    let the_parts = with_values check_values
    (filling.accepts _ _ _ _ c.if-kind-ge4.false c.if-phase-ge256.false c.if-heights-lt256.false c.fill.ensures) in record {
      heights_after = the_parts.0;
      values = the_parts.1;
    }
