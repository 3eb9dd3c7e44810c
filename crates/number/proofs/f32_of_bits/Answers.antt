-- `number::f32_of_bits` meets its contract: a pattern is a NaN's exactly if it is above the infinity's, its sign left off.
use borrow.Author.Tests.{lt-ltb, le-ltb}
use mathlib.Core.Path.{◌≡◌, refl, sym, ◌∙◌, subst}
use mathlib.Core.Bool.{Bool, true, not}
use Prim.Native.Nat.{◌%◌}
use lib.Dec.{T}
use lib.Ieee.{Float, nan, inf, fin, binary32, is_nan, of_bits, div}
use lib.Ieee.Bits.{nan_bits_above}
use Rattle.number.specs.Number.{f32}
use Rattle.number.proofs.Floats.{f32_nan}
use Rattle.number.proofs.f32_of_bits.Goals as goal

is_nan_lem : (x : Float) → is_nan x ≡ true → nan ≡ x
unfolding is_nan
is_nan_lem nan e = refl
is_nan_lem (inf s) e = cc
is_nan_lem (fin s m d) e = cc

no_number : div binary32 (of_bits binary32 0) (of_bits binary32 0) ≡ nan
unfolding div of_bits
no_number = refl

pub float_from_bits-result : goal.float_from_bits-result
float_from_bits-result c =
    subst (λ (t : Bool). T (not t))
    (sym (nan_bits_above binary32 c.args.b ∙ le-ltb 2139095040 (c.args.b % 2147483648) c.if-b-gt2139095040.false)) tt

pub returns-then-b-gt2139095040 : goal.returns-then-b-gt2139095040
returns-then-b-gt2139095040 c =
    let b = c.args.b in
    no_number ∙ is_nan_lem (f32 b) (f32_nan b ∙ lt-ltb 2139095040 (b % 2147483648) c.if-b-gt2139095040.true)

pub returns-else-b-gt2139095040 : goal.returns-else-b-gt2139095040
unfolding f32
returns-else-b-gt2139095040 c = refl
