-- `sheet_shape::walk::take_frame_value` meets its contract: one case a position.
use Rattle.std.proofs.Common.{length, refl, arith}
use Rattle.codec.specs.Codec.{each}
use Rattle.sheet.specs.Sheet.{word}
use Rattle.sheet.specs.Sheet.{values_of, split_value_of}
use Rattle.sheet_decode.proofs.ReadLaws as laws
use Rattle.sheet_shape.proofs.walk.take_frame_value.Goals as goal

pub returns-then-k-eq0 : goal.returns-then-k-eq0
returns-then-k-eq0 c =
    let w = c.args.w in
    laws.chosen (values_of w) (split_value_of w) 0 c.take_byte-k.ensures.reads c.if-k-eq0.true
    c.take_field-x.ensures.reads
    (λ x e. refl)

pub returns : goal.returns
returns c =
    let w = c.args.w in
    laws.chosen (values_of w) (split_value_of w) 1 c.take_byte-k.ensures.reads
    (omega (arith, c.take_byte-k.ensures.small, c.if-k-eq0.false))
    (laws.counted length (each word) c.take_field-c.ensures.reads c.skip_words.ensures) (λ x e. refl)
