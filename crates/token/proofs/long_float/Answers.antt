-- `token::long_float` meets its contract.
use mathlib.Core.Bool.{Bool}
use mathlib.Core.Path.{◌≡◌, sym, ap, ◌∙◌}
use Prim.Native.Nat.{ℕ, ◌^◌}
use lib.Ieee.{Float, binary32, round}
use Rattle.number.specs.Number.{Written, nearest}
use Rattle.number.specs.Rounded.{fraction, rounded, number_rounded}
use Rattle.token.proofs.long_float.Goals as goal

valued : (s : Bool) (w : Written) (p : ℕ) (x : Float) → w.places ≡ p → x ≡ round binary32 s w.digits (10 ^ p) → x ≡ nearest s w
unfolding nearest
valued s w p x e h = h ∙ ap (λ (z : ℕ). round binary32 s w.digits (10 ^ z)) (sym e)

judged : (s : Bool) (w : Written) (p : ℕ) (y : Bool) → w.places ≡ p
    → y ≡ rounded (round binary32 s w.digits (10 ^ p)) (fraction s w.digits (10 ^ p)) → y ≡ number_rounded s w
unfolding nearest number_rounded
judged s w p y e h = h ∙ ap (λ (z : ℕ). rounded (round binary32 s w.digits (10 ^ z)) (fraction s w.digits (10 ^ z))) (sym e)

pub returns : goal.returns
returns c =
    let args = c.args in
    let b = c.long_bits-b.ensures.0 in
    let e = c.figures_of-d.ensures.places in record {
      value = valued args.negative _ _ _ e (c.signed.ensures.value _ _ b.bits);
      rounded = judged args.negative _ _ _ e (c.signed.ensures.rounded ∙ b.rounded args.negative);
    }
