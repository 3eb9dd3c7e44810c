-- `token::split` meets its contract; what `pass` leaves in the scratch is cleared.
use mathlib.Core.Path.{◌≡◌, ap, sym, ◌∙◌}
use native.Mathlib.Omega.{arith}
use Rattle.token.specs.Means.{wide_answer, split_outcome, splitting}
use Rattle.token.specs.declared.SplitAnswer.{SplitAnswer}
use Rattle.token.proofs.SplitLaws.{too_short, split_by}
use Rattle.token.proofs.split.Goals.{After-clear}
use Rattle.token.proofs.split.Goals as goal

-- once the scratch is clear, the answer of `pass` is the one to give
answered : (w : After-clear) →
    (a : SplitAnswer) → wide_answer w.pass-answer.result ≡ a
    → split_outcome a w.clear.new.words ≡ splitting w.args.text.now w.args.scratch.now
answered w a e =
    split_by
    w.args.text.now
    w.args.scratch.now
    a
    w.pass-answer.new.words
    w.clear.new.words
    (omega arith)
    (sym e ∙ w.pass-answer.ensures)
    w.pass-answer.auto.words
    w.clear.ensures

pub returns-then-scratch-lt64 : goal.returns-then-scratch-lt64
returns-then-scratch-lt64 c = too_short _ _ (omega arith)

pub returns-in-Ok : goal.returns-in-Ok
returns-in-Ok c = answered (goal.at.returns-in-Ok c).After-clear _ (ap wide_answer c.in-Ok.is)

pub returns-in-Err : goal.returns-in-Err
returns-in-Err c = answered (goal.at.returns-in-Err c).After-clear _ (ap wide_answer c.in-Err.is)
