-- `sheet_decode::values::take_value` meets its contract: one case a position.
use native.Mathlib.Omega.{arith}
use lib.ListN.{length}
use Rattle.ast.specs.declared.ValueExpr.TheVariants as value
use Rattle.codec.specs.Codec.{each}
use Rattle.sheet.specs.Sheet.{split_value, values, word}
use Rattle.sheet_decode.proofs.ReadLaws as laws
use Rattle.sheet_decode.proofs.values.take_value.Goals as goal

pub returns-then-k-eq0 : goal.returns-then-k-eq0
returns-then-k-eq0 c =
    laws.chosen values split_value 0 c.take_byte-k.ensures.reads c.if-k-eq0.true c.take_float-x.ensures
    (λ x e i. value.Scalar (e i))

pub returns : goal.returns
returns c =
    laws.chosen values split_value 1 c.take_byte-k.ensures.reads
    (omega (arith, c.take_byte-k.ensures.small, c.if-k-eq0.false))
    (laws.counted length (each word) c.take_field-c.ensures.reads c.skip_words.ensures) (λ x e i. value.Array (e i))
