-- `page::put_decimal` meets its contract: it calls itself with a digit fewer.
use native.Mathlib.Omega.{arith}
use Rattle.text.proofs.WriteLaws.{puts_none, puts_then}
use Rattle.page.proofs.PageLaws.{decimal_none, decimal-one, decimal-more}
use Rattle.page.proofs.+put_decimal.Goals as goal

pub returns-then-digits-eq0 : goal.returns-then-digits-eq0
returns-then-digits-eq0 t c = rw (decimal_none _ c.args.n c.if-digits-eq0.true) (puts_none _ _)

pub returns-then-n-lt10 : goal.returns-then-n-lt10
returns-then-n-lt10 t c = rw (decimal-one c.args.digits c.args.n (omega (arith, c.if-digits-eq0.false)) c.if-n-lt10.true) c.put.ensures

pub returns : goal.returns
returns t c =
    rw (decimal-more c.args.digits c.args.n (omega (arith, c.if-digits-eq0.false)) c.if-n-lt10.false)
    (puts_then c.put_decimal-end.ensures c.put-2.ensures)
