-- `number::decimal_bits` meets its contract: a sign is the highest bit.
use mathlib.Core.Path.{ap}
use mathlib.Core.Bool.{Bool}
use Prim.Native.Nat.{◌^◌}
use native.Mathlib.Omega.{arith}
use lib.Ieee.{binary32, round}
use Rattle.number.specs.Number.{bits}
use Rattle.number.proofs.Round.{sign_bit, bits_room}
use Rattle.number.proofs.decimal_bits.Goals as goal

pub overflow_add-result : goal.overflow_add-result
unfolding bits
overflow_add-result c =
    let args = c.args in
    omega (arith, bits_room args.digits (10 ^ args.places), c.unsigned_bits-b.ensures.bits)

pub returns-then-negative-clause-bits : goal.returns-then-negative-clause-bits
unfolding bits
returns-then-negative-clause-bits c =
    let args = c.args in
    let d = 10 ^ args.places in omega (
      arith,
      sign_bit args.digits d,
      c.unsigned_bits-b.ensures.bits,
      ap (λ (b : Bool). bits (round binary32 b args.digits d)) c.if-negative.true,
    )
