-- `print::print` meets its contract.
use Prim.Native.Nat.{ℕ}
use mathlib.Core.List.{List}
use Rattle.error.specs.declared.LineAnswer.{LineAnswer}
use Rattle.error.specs.Answer.{line_values}
use Rattle.error.proofs.AnswerLaws.{and_values}
use Rattle.page.proofs.PageLaws.{page_short, page_unread, page_refused, page_lined}
use native.Mathlib.Omega.{arith}
use Rattle.print.proofs.print.Goals as goal

abbrev values : LineAnswer × List ℕ × List ℕ × List ℕ → List ℕ
values x = line_values x.0

pub returns-then-page-lt-PAGE_BYTES : goal.returns-then-page-lt-PAGE_BYTES
returns-then-page-lt-PAGE_BYTES c =
    let the_parts = and_values values (page_short _ _ _ _ _ (omega arith)) in record {
      page_after = the_parts.0;
      values = the_parts.1;
    }

pub returns-in-Unread : goal.returns-in-Unread
returns-in-Unread c =
    let the_parts = and_values values (page_unread _ _ _ _ _ (omega (arith, c.if-page-lt-PAGE_BYTES.false))
    (rw c.in-Unread.is at c.read_and_check.ensures.sheet_after)
    c.put_refusal.ensures) in record {
      page_after = the_parts.0;
      values = the_parts.1;
    }

pub returns-in-Refused : goal.returns-in-Refused
returns-in-Refused c =
    let the_parts = and_values values (page_refused _ _ _ _ _ (omega (arith, c.if-page-lt-PAGE_BYTES.false))
    (rw c.in-Checked.is at c.read_and_check.ensures.sheet_after)
    (rw (c.in-Checked.is, c.in-Refused.is) at c.read_and_check.ensures.answered)
    c.put_refusal-in-Refused.ensures) in record {
      page_after = the_parts.0;
      values = the_parts.1;
    }

pub returns-in-Accepted : goal.returns-in-Accepted
returns-in-Accepted c =
    let the_parts = and_values values (page_lined _ _ _ _ _ (omega (arith, c.if-page-lt-PAGE_BYTES.false))
    (rw c.in-Checked.is at c.read_and_check.ensures.sheet_after)
    (rw (c.in-Checked.is, c.in-Accepted.is) at c.read_and_check.ensures.answered)
    (rw c.part.ensures at c.put_lines.ensures)) in record {
      page_after = the_parts.0;
      values = the_parts.1;
    }
