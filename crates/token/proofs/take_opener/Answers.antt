-- `token::take_opener` meets its contract.
use native.Mathlib.Omega.{arith}
use Rattle.token.proofs.SplitLaws.{opens, full}
use Rattle.token.proofs.take_opener.Goals as goal

pub returns-then-depth-lt64 : goal.returns-then-depth-lt64
returns-then-depth-lt64 c =
    opens
    c.args.words.now
    c.args.depth
    c.args.b
    c.closer.result
    c.closer.ensures
    (omega arith)
    (omega (arith, c.requires.0))

pub returns : goal.returns
returns c =
    let args = c.args in
    full args.words.now args.depth args.b (omega arith)
