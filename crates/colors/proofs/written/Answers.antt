-- `colors::written` meets its contract: each way out is one law of the bytes that digits write.
use mathlib.Core.Path.{◌∙◌}
use native.Mathlib.Omega.{arith}
use Rattle.colors.proofs.HexLaws.{few_at, few_end, many-at, many_end}
use Rattle.colors.proofs.written.Goals as goal

pub returns-then-i-digits : goal.returns-then-i-digits
returns-then-i-digits c =
    let args = c.args in
    c.pair.ensures ∙ few_at args.digits.now args.i (omega arith) (omega arith)

pub returns-then-digits-lt6 : goal.returns-then-digits-lt6
returns-then-digits-lt6 c =
    let args = c.args in
    few_end args.digits.now args.i (omega arith) (omega arith)

pub returns-then-i-digits-2 : goal.returns-then-i-digits-2
returns-then-i-digits-2 c =
    let args = c.args in
    c.pair-then-i-digits-2.ensures ∙ many-at args.digits.now args.i (omega arith) (omega arith)

pub returns : goal.returns
returns c =
    let args = c.args in
    many_end args.digits.now args.i (omega arith) (omega arith)
