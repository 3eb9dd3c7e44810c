-- `token::float_of` meets its contract.
use mathlib.Core.Path.{◌≡◌, ◌∙◌}
use mathlib.Core.Bool.{Bool, false}
use Prim.Native.Nat.{◌^◌}
use lib.Ieee.{Float, binary32, round}
use Rattle.number.specs.Number.{Written, nearest}
use Rattle.number.specs.Rounded.{fraction, rounded, number_rounded}
use Rattle.token.specs.Means.{Reads}
use Rattle.token.specs.declared.Number as numbers
use Rattle.token.proofs.float_of.Goals as goal

short_value : (s : Bool) (w : Written) (n : numbers.Number) (x : Float) → Reads w n → n.long ≡ false
    → x ≡ round binary32 s n.digits (10 ^ n.places) → x ≡ nearest s w
unfolding nearest
short_value s w n x r e h = h ∙ (rw (r.digits e, r.places e))

short_rounded : (s : Bool) (w : Written) (n : numbers.Number) (y : Bool) → Reads w n → n.long ≡ false
    → y ≡ rounded (round binary32 s n.digits (10 ^ n.places)) (fraction s n.digits (10 ^ n.places)) → y ≡ number_rounded s w
unfolding nearest number_rounded
short_rounded s w n y r e h = h ∙ (rw (r.digits e, r.places e))

pub returns : goal.returns
returns c =
    let s = c.args.negative in
    let e = c.if-n.false in record {
      value = short_value s _ c.args.n _ c.requires.is e c.decimal.ensures.value;
      rounded = short_rounded s _ c.args.n _ c.requires.is e c.decimal.ensures.rounded;
    }
