-- `token::power_digits` meets its contract.
use Prim.Native.Nat.{◌-◌}
use mathlib.Core.Bool.{true, false}
use mathlib.Core.Path.{◌≡◌, sym}
use native.Mathlib.Omega.{arith}
use lib.ListN.{drop}
use borrow.Author.Tests.{lt-ltb, le-ltb}
use Rattle.text.specs.Bytes.{run, is_digit}
use Rattle.token.proofs.LexLaws.{digits_are}
use Rattle.token.proofs.power_digits.Goals.{After-run_end}
use Rattle.token.proofs.power_digits.Goals as goal

counted : (w : After-run_end) →
    let args = w.args in
    w.run_end.result - args.m ≡ run is_digit (drop args.m args.t.now)
counted w = omega (arith, w.run_end.ensures)

pub returns-then-n : goal.returns-then-n
returns-then-n c =
    let args = c.args in
    sym (digits_are args.t.now args.m _ (counted (goal.at.returns-then-n c).After-run_end) true (lt-ltb 2 _ c.if-n.true))

pub returns : goal.returns
returns c =
    let args = c.args in
    sym (digits_are args.t.now args.m _ (counted (goal.at.returns c).After-run_end) false (le-ltb 2 _ c.if-n.false))
