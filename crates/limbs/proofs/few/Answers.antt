-- `limbs::few` meets its contract; the loop keeps the number that the digits left make of `v`, and a bound on `v`.
use mathlib.Core.Path.{◌≡◌, sym, ap, ◌∙◌, subst}
use Prim.Native.Nat.{ℕ, ◌+◌, ◌*◌, ◌^◌, ◌<◌, ◌≤◌}
use native.Mathlib.Omega.{arith}
use lib.ListN.{length, get_or, drop, length-drop}
use Rattle.text.specs.Bytes.{decimal, is_digit}
use Rattle.text.proofs.ByteLaws.{run_in, within_is}
use Rattle.limbs.proofs.NumberLaws.{decimal_next, decimal_none, ten_more, ten_fits}
use Rattle.limbs.proofs.few.Goals.{In-loop-b}
use Rattle.limbs.proofs.few.Goals as goal

-- the byte is a digit
figure : (w : In-loop-b) →
    let b = get_or w.args.digits.now w.loop-b.b-index 0 in
    (48 ≤ b) × (b ≤ 57)
figure w =
    within_is 48 57 (get_or w.args.digits.now w.loop-b.b-index 0)
    (run_in is_digit w.args.digits.now w.loop-b.b-index (omega (arith, w.requires.0, w.loop-b-test.true)))

pub overflow_mul-v : goal.overflow_mul-v
overflow_mul-v c = omega (arith, ten_fits c.loop-b.v _ 8 c.loop-b.invariant.1 (omega (arith, c.requires.1, c.loop-b-test.true)))

pub overflow_sub-b : goal.overflow_sub-b
overflow_sub-b c = let f = figure (goal.at.overflow_sub-b c).In-loop-b in omega (arith, f.0)

pub overflow_add-v : goal.overflow_add-v
overflow_add-v c =
    let f = figure (goal.at.overflow_add-v c).In-loop-b in
    omega (arith, f.1, ten_fits c.loop-b.v _ 8 c.loop-b.invariant.1 (omega (arith, c.requires.1, c.loop-b-test.true)))

pub loop-b-preserved : goal.loop-b-preserved
loop-b-preserved c =
    let t = c.args.digits.now in
    let i = c.loop-b.b-index in
    let f = figure (goal.at.loop-b-preserved c).In-loop-b in (
      ap (λ (z : ℕ). decimal (c.loop-b.v * 10 + z) (drop (i + 1) t)) c.from.ensures
          ∙ sym (decimal_next c.loop-b.v t i c.loop-b-test.true) ∙ c.loop-b.invariant.0,
      ten_more c.loop-b.v c.from.result i c.loop-b.invariant.1 (omega (arith, f.1, c.from.ensures)),
    )

pub returns : goal.returns
returns c =
    let t = c.args.digits.now in
    let i = c.loop-b.b-index in
    let f : i ≡ length t = omega arith in (
      sym (decimal_none c.loop-b.v (drop i t) (omega (arith, length-drop i t))) ∙ c.loop-b.invariant.0,
      subst (λ (z : ℕ). c.loop-b.v < 10 ^ z) f c.loop-b.invariant.1,
    )
