-- `number::signed` meets its contract: a sign is the highest bit.
use mathlib.Core.Path.{◌≡◌, ap, ◌∙◌}
use mathlib.Core.Bool.{true, false}
use Prim.Native.Nat.{ℕ, ◌+◌}
use native.Mathlib.Nat.{add-zero}
use native.Mathlib.Omega.{arith}
use lib.Ieee.{Float, binary32, round}
use lib.Ieee.Fits.{round-fits}
use Rattle.number.specs.Number.{bits, f32}
use Rattle.number.proofs.Floats.{f32-bits}
use Rattle.number.proofs.Round.{sign_bit}
use Rattle.number.proofs.signed.Goals.{then-negative, else-negative}
use Rattle.number.proofs.signed.Goals as goal

turned : (m n d : ℕ) (x : Float) → m ≡ bits (round binary32 false n d) → x ≡ f32 (m + 2147483648) → x ≡ round binary32 true n d
unfolding bits
turned m n d x e h =
    let sum : m + 2147483648 ≡ bits (round binary32 true n d) = omega (arith, e, sign_bit n d) in
    h ∙ ap f32 sum ∙ f32-bits (round binary32 true n d) (round-fits binary32 true n d)

plain : (m n d : ℕ) (x : Float) → m ≡ bits (round binary32 false n d) → x ≡ f32 m → x ≡ round binary32 false n d
plain m n d x e h = h ∙ ap f32 e ∙ f32-bits (round binary32 false n d) (round-fits binary32 false n d)

pub returns-clause-value : goal.returns-clause-value
returns-clause-value c n d e =
    elim c.if-negative.branch [
      | then-negative w ↦
          rw w.if-negative.true
          (turned c.args.b.bits n d c.f32_of_bits.result e
          (c.f32_of_bits.ensures ∙ ap (λ (z : ℕ). f32 (c.args.b.bits + z)) w.sign-is))
      | else-negative w ↦
          rw w.if-negative.false
          (plain c.args.b.bits n d c.f32_of_bits.result e
          (c.f32_of_bits.ensures ∙ ap (λ (z : ℕ). f32 (c.args.b.bits + z)) w.sign-is ∙ ap f32 (add-zero c.args.b.bits)))
    ]
