-- `sheet_decode::optional::take_opt` meets its contract: a byte 0, or 1 and the value.
use mathlib.Core.Path.{refl}
use Rattle.sheet_decode.specs.OptionalMeans.{missing, there}
use Rattle.sheet_decode.proofs.optional.take_opt.Goals as goal

pub returns-then-present-eq0 : goal.returns-then-present-eq0
returns-then-present-eq0 g c = missing c.take_byte-present.ensures c.if-present-eq0.true refl

pub returns : goal.returns
returns g c = there c.take_byte-present.ensures c.if-present-eq0.false c.take-value.ensures refl refl
