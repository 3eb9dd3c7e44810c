-- `number::nearest_bits` meets its contract: with n of 64 binary digits and d of 40 the quotient has 24 or 25.
use mathlib.Core.Path.{sym, ap, ◌∙◌}
use mathlib.Core.Bool.{false}
use Prim.Native.Nat.{ℕ, ◌+◌, ◌-◌, ◌*◌, ◌^◌}
use native.Mathlib.Nat.{mul_assoc}
use native.Mathlib.Omega.{arith}
use lib.Count.{count_leading_zeros}
use lib.Pow.{pow-add}
use lib.Ieee.{binary32, round, to_bits}
use Rattle.number.specs.Number.{bits}
use Rattle.number.specs.Rounded.{fraction, rounded}
use Rattle.number.proofs.Scaling.{Aligned, aligned, scaled_bits, scaled_rounded, whole_below}
use Rattle.number.proofs.Exactly.{zero_exact}
use Rattle.number.proofs.Round.{zero_bits}
use Rattle.number.proofs.nearest_bits.Goals.{Else-n-eq0}
use Rattle.number.proofs.nearest_bits.Goals as goal

known : (c : Else-n-eq0) → Aligned c.args.n c.args.d (count_leading_zeros 64 c.args.n) (count_leading_zeros 64 c.args.d)
known c = aligned c.args.n c.args.d c.if-n-eq0.false c.ranges.n.fits c.requires.0 c.requires.1

pub returns-then-n-eq0 : goal.returns-then-n-eq0
unfolding bits
returns-then-n-eq0 c =
    let d = c.args.d in
    let zero = c.if-n-eq0.true in
    let above = c.requires.0 in record {
      bits = sym (ap (λ (x : ℕ). to_bits binary32 (round binary32 false x d)) zero ∙ zero_bits d above);
      rounded = λ s. sym (ap (λ (x : ℕ). rounded (round binary32 s x d) (fraction s x d)) zero ∙ zero_exact s d above);
    }

pub overflow_sub-y : goal.overflow_sub-y
overflow_sub-y c = (known c).l_low

pub packed-requires : goal.packed-requires
packed-requires c = let k = known (goal.at.packed-requires c).Else-n-eq0 in (omega arith, omega arith, whole_below _ _ _ (omega arith) (omega arith), omega arith)

pub packed-requires-else-a-b : goal.packed-requires-else-a-b
packed-requires-else-a-b c = let k = known (goal.at.packed-requires-else-a-b c).Else-n-eq0 in (omega arith, omega arith, whole_below _ _ _ (omega arith) (omega arith), omega arith)

pub returns-then-a-b : goal.returns-then-a-b
unfolding bits
returns-then-a-b c =
    let args = c.args in
    let k = known (goal.at.returns-then-a-b c).Else-n-eq0 in
    let z = count_leading_zeros 64 args.n in
    let y = count_leading_zeros 64 args.d - 24 in record {
      bits = c.packed.ensures.bits
          ∙ scaled_bits args.n args.d z y _ _ _ c.requires.0 k.a_is k.b-is (omega arith) (omega arith) (omega arith)
          (omega arith)
          (omega arith);
      rounded = λ t. c.packed.ensures.rounded
          ∙ scaled_rounded args.n args.d z y (149 + y - z) _ _ c.requires.0 k.a_is k.b-is (omega arith) (omega arith)
          (omega arith) (omega arith)
          (omega arith) t;
    }

pub returns-else-a-b : goal.returns-else-a-b
unfolding bits
returns-else-a-b c =
    let args = c.args in
    let k = known (goal.at.returns-else-a-b c).Else-n-eq0 in
    let z = count_leading_zeros 64 args.n in
    let y = count_leading_zeros 64 args.d - 24 in
    let twice = ap (λ (x : ℕ). x * 2) k.b-is ∙ mul_assoc args.d (2 ^ y) 2 ∙ ap (λ (x : ℕ). args.d * x) (sym (pow-add 2 y 1)) in record {
      bits = c.packed-else-a-b.ensures.bits
          ∙ scaled_bits args.n args.d z (y + 1) _ _ _ c.requires.0 k.a_is twice (omega arith) (omega arith) (omega arith)
          (omega arith)
          (omega arith);
      rounded = λ t. c.packed-else-a-b.ensures.rounded
          ∙ scaled_rounded args.n args.d z (y + 1) (149 + y - z + 1) _ _ c.requires.0 k.a_is twice (omega arith) (omega arith)
          (omega arith)
          (omega arith) (omega arith) t;
    }
