-- `number::duplicate` meets its contract: with its sign taken off where it is negative, a float is its size.
use borrow.Author.Tests.{ltb-true, ltb-false, lt-ltb}
use mathlib.Core.Path.{◌≡◌, refl, sym, ap, ◌∙◌}
use mathlib.Core.Bool.{Bool, true, false}
use Prim.Native.Nat.{ℕ, ◌+◌, ◌*◌, ◌<◌, ◌≤◌}
use native.Mathlib.Nat.{zero-mul, mul-one, one-mul}
use native.Mathlib.Omega.{arith}
use lib.IntN.{ℤ, pos}
use lib.Ieee.{Float, nan, inf, fin, binary32, of_bits, lt, sub, neg, up, down}
use lib.Ieee.Fits.{down_pos}
use Rattle.number.specs.Time.{size, near}
use Rattle.number.proofs.Gap.{epsilon}
use Rattle.number.proofs.duplicate.Goals.{then-d, else-d}
use Rattle.number.proofs.duplicate.Goals as goal

abbrev zero32 : Float
zero32 = fin false 0 (pos 0)

literals : (of_bits binary32 0 ≡ zero32) × (of_bits binary32 872415232 ≡ epsilon)
unfolding of_bits
literals = (refl, refl)

never : (x y : ℕ) → x < 0 * y → ⊥
never x y h = omega (arith, zero-mul y)

below-zero : (d : Float) → lt d zero32 ≡ true → lt (neg d) epsilon ≡ lt (size d) epsilon
unfolding lt neg
below-zero nan e = refl
below-zero (inf true) e = refl
below-zero (inf false) e = cc
below-zero (fin true m g) e = refl
below-zero (fin false m g) e = absurd (never (m * up g * 1) (down g) (ltb-true (m * up g * 1) (0 * down g) e))

-- -0
no_size : (m : ℕ) (g : ℤ) → m * up g * 1 + 0 * down g ≤ 0 → m * up g ≡ 0
no_size m g h = omega (arith, mul-one (m * up g), zero-mul (down g))

not-below : (d : Float) → lt d zero32 ≡ false → lt d epsilon ≡ lt (size d) epsilon
unfolding lt
not-below nan e = refl
not-below (inf true) e = cc
not-below (inf false) e = refl
not-below (fin false m g) e = refl
not-below (fin true m g) e =
    let z : m * up g ≡ 0 = no_size m g (ltb-false 0 (m * up g * 1 + 0 * down g) e) in
    let p : 0 < down g = down_pos g in
    lt-ltb 0 (m * up g * 8388608 + 1 * down g) (omega (arith, one-mul (down g)))
    ∙ sym (lt-ltb (m * up g * 8388608) (1 * down g) (omega (arith, one-mul (down g))))

pub returns : goal.returns
unfolding near
returns c =
    let d = sub binary32 c.args.a c.args.b in
    let z : (b : Bool) → lt d (of_bits binary32 0) ≡ b → lt d zero32 ≡ b = λ b e. ap (λ (y : Float). lt d y) (sym literals.0) ∙ e in
    ap (λ (y : Float). lt c.if-d.s y) literals.1
    ∙ elim c.if-d.branch [
      | then-d w ↦ ap (λ (y : Float). lt y epsilon) w.s-is ∙ below-zero d (z true w.if-d.true)
      | else-d w ↦ ap (λ (y : Float). lt y epsilon) w.s-is ∙ not-below d (z false w.if-d.false)
    ]
