-- `verdict::read_and_check` meets its contract.
use Rattle.verdict.proofs.VerdictLaws.{unread, checked, unread_values, checked_values}
use Rattle.verdict.proofs.read_and_check.Goals as goal

pub returns-in-Refused : goal.returns-in-Refused
returns-in-Refused c =
    let args = c.args in
    let e = rw c.in-Refused.is at c.read.ensures.sheet_after in record {
      sheet_after = e;
      answered = tt;
      claims = unread args.list args.text.now args.scratch.now args.sheet.now _ _ _ _ e;
      values = unread_values args.list args.text.now args.scratch.now args.sheet.now _ _ _ _ e;
    }

pub returns-in-Accepted : goal.returns-in-Accepted
returns-in-Accepted c =
    let args = c.args in
    let e = rw c.in-Accepted.is at c.read.ensures.sheet_after in
    let v = rw c.part.ensures at c.check-answer.ensures.value in record {
      sheet_after = e;
      answered = v;
      claims = checked args.list args.text.now args.scratch.now args.sheet.now _ _ _ _ _ _ e v;
      values = checked_values args.list args.text.now args.scratch.now args.sheet.now _ _ _ _ _ _ e v;
    }
