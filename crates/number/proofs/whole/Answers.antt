-- `number::whole` meets its contract, by the two tests.
use borrow.Author.Tests.{lt-ltb, le-ltb}
use Rattle.std.specs.Prelude.{Result, Ok, Err, cond, ltb}
use Rattle.std.specs.Result.{OkIff, result_ok}
use Rattle.std.proofs.Math.Option.{none, some}
use mathlib.Core.Logic.{inl, inr}
use mathlib.Core.Path.{◌≡◌, sym}
use native.Mathlib.Omega.{arith}
use native.Mathlib.Nat.{lt_of_not-le}
use Prim.Native.Nat.{ℕ, ◌≤◌, ◌<◌}
use Rattle.number.specs.Means.{value_of, Capped}
use Rattle.number.specs.Number.{whole}
use Rattle.number.proofs.whole.Goals as goal

above : (v n : ℕ) → Capped v n → 4294967295 < v → 4294967295 < n
above v n (inl e) h = omega arith
above v n (inr k) h = k.1

same : (v n : ℕ) → Capped v n → v ≤ 4294967295 → n ≡ v
same v n (inl e) h = sym e
same v n (inr k) h = absurd (omega (arith, k.0))

pub returns-then-negative : goal.returns-then-negative
unfolding whole
returns-then-negative c w e = rw c.if-negative.true

-- what `u32::try_from` makes of v
tried : {E : Type 0} (r : Result ℕ E) (v n : ℕ) → OkIff r (v < 4294967296) v → Capped v n
    → value_of (result_ok r) ≡ cond (ltb 4294967295 n) none (some n)
tried (Ok x) v n h e =
    let few : v ≤ 4294967295 = omega (arith, h.0) in
    rw (h.1, same v n e few, le-ltb 4294967295 v few)
tried (Err x) v n h e =
    let many : 4294967295 < v = omega (arith, lt_of_not-le h) in
    rw (lt-ltb 4294967295 n (above v n e many))

pub returns : goal.returns
unfolding whole
returns c w e = rw (c.ok.ensures.value, c.if-negative.false) (tried c.try_from.result c.args.digits w.digits c.try_from.ensures e)
