-- `sheet_decode::values::take_pattern` meets its contract: one case a position.
use mathlib.Core.Path.{refl}
use native.Mathlib.Omega.{arith}
use Rattle.ast.specs.declared.StaggerPatternSpec.TheVariants as pattern
use Rattle.sheet_decode.specs.Means.{same}
use Rattle.sheet.specs.Sheet.{patterns, split_pattern}
use Rattle.sheet_decode.proofs.ReadLaws.{◌&◌}
use Rattle.sheet_decode.proofs.ReadLaws as laws
use Rattle.sheet_decode.proofs.values.take_pattern.Goals as goal

pub returns-in-0 : goal.returns-in-0
returns-in-0 c =
    laws.chosen patterns split_pattern 0 c.take_byte-k.ensures.reads c.in-0.is
    (c.take_field-x.ensures.reads
    & c.take_field-y.ensures.reads & c.take_byte-o.ensures.reads)
    (λ x e i. pattern.Grid (e i).0 (e i).1.0 (e i).1.1)

pub returns-in-1 : goal.returns-in-1
returns-in-1 c =
    laws.chosen patterns split_pattern 1 c.take_byte-k.ensures.reads c.in-1.is
    (c.take_field-x-in-1.ensures.reads
    & c.take_float-y.ensures & c.take_float-z.ensures)
    (λ x e i. pattern.Random (e i).0 (e i).1.0 (e i).1.1)

pub returns-in-2 : goal.returns-in-2
returns-in-2 c = laws.chosen patterns split_pattern 2 {f = same} c.take_byte-k.ensures.reads c.in-2.is (laws.nothing _ _) (λ x e. refl)

pub returns-in_default : goal.returns-in_default
returns-in_default c =
    laws.chosen patterns split_pattern 3 {f = same} c.take_byte-k.ensures.reads
    (omega (arith, c.take_byte-k.ensures.small)) (laws.nothing _ _) (λ x e. refl)
