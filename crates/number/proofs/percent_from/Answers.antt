-- `number::percent_from` meets its contract: the literal is 100; the percent is n / 100 if the f32 nearest to n / 100 is, and equals it.
use mathlib.Core.Path.{◌≡◌, refl, sym, ap, ◌∙◌, subst}
use mathlib.Core.Bool.{Bool, true, false, not}
use Prim.Native.Nat.{ℕ, zero, suc}
use native.Mathlib.Omega.{arith}
use lib.Dec.{T}
use lib.Ieee.{Float, binary32, round, div, of_bits, ne}
use Rattle.number.specs.Number.{percent}
use Rattle.number.specs.Rounded.{fraction, rounded}
use Rattle.number.proofs.Floats.{percent-fits}
use Rattle.number.proofs.Hundredth.{percent_once}
use Rattle.number.proofs.TwoRoundings.{meets, missed}
use Rattle.number.proofs.percent_from.Goals as goal

hundred : of_bits binary32 0x42c8_0000 ≡ round binary32 false 100 1
unfolding of_bits round
hundred = refl

divided : (s : Bool) (n : ℕ) (x : Float) → x ≡ round binary32 s n 1 → div binary32 x (of_bits binary32 0x42c8_0000) ≡ percent s n
unfolding percent
divided s n x e = ap (λ (y : Float). div binary32 y (of_bits binary32 0x42c8_0000)) e ∙ ap (div binary32 (round binary32 s n 1)) hundred

is_true : (b : Bool) → T b → b ≡ true
is_true true h = refl
is_true false h = absurd h

is_false : (b : Bool) → T (not b) → b ≡ false
is_false true h = absurd h
is_false false h = refl

-- where n / 100 is no f32, the percent is rounded
judged_missed : (s : Bool) (n : ℕ) → T (rounded (round binary32 s n 100) (fraction s n 100))
    → rounded (percent s n) (fraction s n 100) ≡ true
judged_missed s zero h = ap (λ (x : Float). rounded x (fraction s 0 100)) (percent_once s 0 (omega arith)) ∙ is_true _ h
judged_missed s (suc n) h = missed s (suc n) (omega arith) (percent s (suc n)) (percent-fits s (suc n)) h

same_zeros : (s : Bool) → ne (round binary32 s 0 100) (round binary32 s 0 100) ≡ false
unfolding round ne
same_zeros true = refl
same_zeros false = refl

-- where it is one, the percent is rounded if it is another
judged_met : (s : Bool) (n : ℕ) → T (not (rounded (round binary32 s n 100) (fraction s n 100)))
    → ne (percent s n) (round binary32 s n 100) ≡ rounded (percent s n) (fraction s n 100)
judged_met s zero h = rw (percent_once s 0 (omega arith), same_zeros s) (sym (is_false _ h))
judged_met s (suc n) h = sym (meets s (suc n) (omega arith) (percent s (suc n)) (round binary32 s (suc n) 100) h)

pub returns-then-once : goal.returns-then-once
returns-then-once c =
    let args = c.args in record {
      value = λ s n e. divided s n args.x.value e;
      rounded = λ s n e f g. sym (judged_missed s n (subst T (sym c.if-once.true ∙ g) tt));
    }

pub returns : goal.returns
returns c =
    let args = c.args in record {
      value = λ s n e. divided s n args.x.value e;
      rounded = λ s n e f g. ap (λ (x : Float). ne x args.once.value) (divided s n args.x.value e)
          ∙ ap (ne (percent s n)) f
          ∙ judged_met s n (subst (λ (b : Bool). T (not b)) (sym c.if-once.false ∙ g) tt);
    }
