-- `number::small_bits` meets its contract: the digits and the power of ten are f32 exactly, and their quotient is rounded once.
use mathlib.Core.Path.{◌≡◌, sym, ap, ◌∙◌, subst}
use mathlib.Core.Bool.{false, not}
use Prim.Native.Nat.{ℕ, ◌%◌, ◌^◌, ◌<◌}
use native.Mathlib.Nat.{one-le-pow, mod-one}
use native.Mathlib.Omega.{arith}
use lib.Dec.{T, eqb, lit<}
use lib.IntN.{pos}
use lib.Ieee.{Float, binary32, round, div, of_int, to_bits, is_nan}
use lib.Ieee.Back.{round_whole}
use lib.Ieee.Exact.{HasValue}
use Rattle.number.specs.Number.{bits}
use Rattle.number.proofs.Floats.{round_number}
use Rattle.number.proofs.Division.{quotient_once, rounded_fives}
use Rattle.number.proofs.small_bits.Goals as goal

once : (n p : ℕ) (y : Float) → n < 2 ^ 24 → HasValue y false (10 ^ p) 1
    → div binary32 (of_int binary32 (pos n)) y ≡ round binary32 false n (10 ^ p)
unfolding of_int
once n p y h v =
    quotient_once (round binary32 false n 1) y false n (10 ^ p) (one-le-pow p 10 (lit< tt)) (round_whole binary32 false n (omega arith)) v

pub float_to_bits-result : goal.float_to_bits-result
unfolding of_int
float_to_bits-result c = round_number false c.args.digits 1

pub returns-then-places-eq0 : goal.returns-then-places-eq0
unfolding bits of_int
returns-then-places-eq0 c =
    let n = c.args.digits in
    let none = c.if-places-eq0.true in record {
      bits = ap (λ (p : ℕ). to_bits binary32 (round binary32 false n (10 ^ p))) (sym none);
      rounded = λ s. sym (rounded_fives s n c.args.places c.requires.0 c.requires.1
          ∙ ap (λ (p : ℕ). not (eqb (n % 5 ^ p) 0)) none
          ∙ ap (λ (r : ℕ). not (eqb r 0)) (mod-one n));
    }

pub float_to_bits-result-2 : goal.float_to_bits-result-2
float_to_bits-result-2 c =
    let args = c.args in
    subst (λ (x : Float). T (not (is_nan x))) (sym (once args.digits args.places c.ten.result c.requires.0 c.ten.ensures))
    (round_number false args.digits (10 ^ args.places))

pub nonzero_rem-result : goal.nonzero_rem-result
nonzero_rem-result c = omega (arith, c.five.ensures, one-le-pow c.args.places 5 (lit< tt))

pub returns : goal.returns
unfolding bits
returns c =
    let n = c.args.digits in
    let p = c.args.places in record {
      bits = ap (to_bits binary32) (once n p c.ten.result c.requires.0 c.ten.ensures);
      rounded = λ s. ap (λ (f : ℕ). not (eqb (n % f) 0)) c.five.ensures ∙ sym (rounded_fives s n p c.requires.0 c.requires.1);
    }
