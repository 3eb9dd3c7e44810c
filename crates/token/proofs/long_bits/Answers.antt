-- `token::long_bits` meets its contract.
use mathlib.Core.Path.{sym, subst}
use Prim.Native.Nat.{ℕ, ◌^◌, ◌<◌}
use Rattle.number.specs.Number.{bits}
use Rattle.number.specs.declared.Bits.{Bits}
use Rattle.number.proofs.Round.{bits_room}
use Rattle.limbs.specs.Means.{Nearest}
use Rattle.token.proofs.long_bits.Goals as goal

roomy : (n d : ℕ) (r : Bits) → Nearest n d r → r.bits < 2147483648
unfolding bits
roomy n d r h = rw h.bits (bits_room n d)

pub returns : goal.returns
returns c =
    let h = c.decimal.ensures in
    (subst (λ (z : ℕ). Nearest z (10 ^ c.args.down) c.decimal.result) (sym c.requires.0.digits) h, roomy _ _ _ h)
