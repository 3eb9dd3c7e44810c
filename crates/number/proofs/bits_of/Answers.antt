-- `number::bits_of` meets its contract.
use mathlib.Core.Path.{refl}
use Rattle.number.specs.Number.{bits}
use Rattle.number.proofs.bits_of.Goals as goal

pub returns : goal.returns
unfolding bits
returns c = refl
