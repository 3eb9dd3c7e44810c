-- `back_copying::values::copy_value` meets its contract.
use native.Mathlib.Omega.{arith}
use Rattle.sheet.specs.Sheet.{values, split_value}
use Rattle.fresh.specs.Fresh.{value}
use Rattle.back_copying.proofs.CopyLaws.{in_case}
use Rattle.back_copying.proofs.values.copy_value.Goals as goal

pub returns-then-k-eq0 : goal.returns-then-k-eq0
unfolding value
returns-then-k-eq0 c =
    in_case values split_value value 0 c.take_byte-k.ensures.reads c.if-k-eq0.true
    c.copy_f32.ensures

pub returns : goal.returns
returns c =
    in_case values split_value value 1 c.take_byte-k.ensures.reads (omega (arith, c.take_byte-k.ensures.small, c.if-k-eq0.false))
    c.copy_array.ensures
