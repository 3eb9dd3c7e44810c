-- `line::check_byte` meets its contract: what is subtracted from zero gives zero with the sum.
use Rattle.std.proofs.Common.{arith, rules}
use Rattle.lining.proofs.LineLaws.{total-covered, check_is}
use Rattle.line.proofs.check_byte.Goals as goal

pub returns : goal.returns
returns c =
    check_is _ _ (search rules)
    (omega (
      arith,
      total-covered c.args.bytes.now,
      c.total.ensures,
    ))
