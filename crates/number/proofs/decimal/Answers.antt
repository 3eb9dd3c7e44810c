-- `number::decimal` meets its contract: what was rounded fits, so its bits give it back.
use mathlib.Core.Path.{ap, ◌∙◌}
use Prim.Native.Nat.{◌^◌}
use lib.Ieee.{binary32, round}
use lib.Ieee.Fits.{round-fits}
use Rattle.number.specs.Number.{f32}
use Rattle.number.proofs.Floats.{f32-bits}
use Rattle.number.proofs.decimal.Goals as goal

pub returns-clause-value : goal.returns-clause-value
returns-clause-value c =
    let args = c.args in
    let x = round binary32 args.negative args.digits (10 ^ args.places) in c.f32_of_bits.ensures ∙ ap f32 c.decimal_bits-b.ensures.bits
    ∙ f32-bits x (round-fits binary32 args.negative args.digits (10 ^ args.places))
