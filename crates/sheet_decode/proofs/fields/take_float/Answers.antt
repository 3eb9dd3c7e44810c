-- `sheet_decode::fields::take_float` meets its contract: a word, seen as an f32.
use mathlib.Core.Path.{ap, sym, ◌∙◌}
use Rattle.number.specs.Number.{f32}
use Rattle.sheet_decode.proofs.ReadLaws as laws
use Rattle.sheet_decode.proofs.fields.take_float.Goals as goal

pub returns : goal.returns
returns c = laws.seen c.take_field-w.ensures.reads (λ a e. ap f32 e ∙ sym c.f32_of_bits.ensures)
