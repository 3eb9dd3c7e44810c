-- `limbs::nearest` meets its contract: a long division, a binary digit at a time.
use borrow.Author.Tests.{ltb-true}
use mathlib.Core.Path.{◌≡◌, refl, ap, ◌∙◌, subst}
use mathlib.Core.Logic.{inl, inr, ⊎_elim}
use mathlib.Core.Bool.{not}
use Prim.Native.Nat.{ℕ, ◌+◌, ◌*◌, ◌^◌, ◌<◌}
use native.Mathlib.Omega.{arith}
use lib.ListN.{length}
use Rattle.limbs.specs.LimbMeans.{val}
use Rattle.number.proofs.Round.{Scaled}
use Rattle.limbs.proofs.LongLaws.{go_on, certify, pos_of, at_most, long-nearest, long_infinite, raised_infinite}
use Rattle.limbs.proofs.nearest.Goals.{then-loop-k-test+else-q-lt8388608, else-loop-k-test, At-loop-k}
use Rattle.limbs.proofs.nearest.Goals as goal

-- what the digits are of, where the loop has come
record Came (n d b q a k : ℕ) : Type 0 where
  some : 0 < d
  under : 0 < b
  below : a < b * 2
  is : Scaled n d (q * (b * 2) + a) (b * 2) k
  few : q < 16777216

came : (w : At-loop-k) →
    Came
    (val w.args.a.now)
    (val w.args.b.now)
    (val w.raise-top.new.b)
    w.loop-k.q
    (val w.loop-k.a)
    w.loop-k.k
came w =
    let n = val w.args.a.now in
    let d = val w.args.b.now in
    let b = val w.raise-top.new.b in
    record {
      some = w.requires.3;
      under = pos_of b d w.raise-top.result w.requires.3 w.raise-top.ensures.scaled;
      below = w.loop-k.invariant.1;
      is = certify n d b (w.loop-k.q * (b * 2) + val w.loop-k.a) w.loop-k.k w.raise-top.result w.raise-top.ensures.scaled
          (w.loop-k.invariant.0 ∙ w.lower-k.ensures.1);
      few = w.loop-k.invariant.2;
    }

pub returns-then-top-ge300 : goal.returns-then-top-ge300
returns-then-top-ge300 c =
    let n = val c.args.a.now in
    let d = val c.args.b.now in
    let b = val c.raise-top.new.b in
    let e : c.raise-top.result ≡ 300 = omega (arith, c.raise-top.ensures.most) in
    let q = subst (λ (z : ℕ). b * 2 ^ 150 ≡ d * 2 ^ z) e c.raise-top.ensures.scaled in
    raised_infinite n d b c.requires.3 (pos_of b d 300 c.requires.3 q) q (⊎_elim (λ w. omega arith) (λ w. w) c.raise-top.ensures.near)
    refl refl

pub loop-k-preserved : goal.loop-k-preserved
loop-k-preserved c =
    let b = val c.raise-top.new.b in (
      go_on b c.loop-k.q (val c.loop-k.a) c.loop-k.k c.digit-bit.result (val c.digit-bit.new.a) (val c.lower-k.new.a * 2 ^ c.lower-k.result)
          (omega arith) c.digit-bit.ensures.1 c.loop-k.invariant.0,
      c.digit-bit.ensures.2,
      omega (arith, ltb-true),
      omega arith,
      c.digit-bit.auto.a ∙ c.loop-k.invariant.4,
    )

pub returns-then-k-ge254 : goal.returns-then-k-ge254
returns-then-k-ge254 c =
    let w = came (goal.at.returns-then-k-ge254 c).At-loop-k in
    let q = c.loop-k.q in
    long_infinite _ _ _ q _ _ w.some w.under w.below w.is
    (elim c.loop-k-test.branch [
      | then-loop-k-test+else-q-lt8388608 w ↦ w.if-q-lt8388608.false
      | else-loop-k-test w ↦ omega arith
    ])
    c.if-k-ge254.true
    refl refl

pub overflow_add-result : goal.overflow_add-result
overflow_add-result c =
    let w = came (goal.at.overflow_add-result c).At-loop-k in
    omega (arith, at_most c.loop-k.q (val c.loop-k.a) _ w.below w.few, c.whole.ensures)

pub returns : goal.returns
returns c =
    let w = came (goal.at.returns c).At-loop-k in
    let q = c.loop-k.q in
    long-nearest _ _ _ q _ _ w.some w.under w.below w.is w.few
    (elim c.loop-k-test.branch [
      | then-loop-k-test+else-q-lt8388608 w ↦ inr w.if-q-lt8388608.false
      | else-loop-k-test w ↦ inl (omega arith)
    ])
    (omega arith)
    (omega (arith, c.whole.ensures))
    (ap not (c.is_zero.ensures (length c.loop-k.a) refl))
