-- `token::past_power` meets its contract.
use mathlib.Core.Path.{sym, ap, ◌∙◌}
use native.Mathlib.Omega.{arith}
use Prim.Native.Nat.{ℕ, ◌+◌}
use Rattle.token.proofs.LexLaws.{from_low, past_none, past_some}
use Rattle.token.proofs.past_power.Goals as goal

pub returns-then-size-eq0 : goal.returns-then-size-eq0
returns-then-size-eq0 c =
    let args = c.args in
    sym (past_none args.t.now args.n args.size c.if-size-eq0.true)

pub overflow_add-result : goal.overflow_add-result
overflow_add-result c = omega (arith, c.requires.0, c.requires.1, c.power_from.ensures, (from_low c.args.t.now c.args.n).1)

pub returns : goal.returns
returns c =
    let args = c.args in
    ap (λ (z : ℕ). z + args.size) c.power_from.ensures ∙ sym (past_some args.t.now args.n args.size (omega arith))
