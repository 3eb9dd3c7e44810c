-- `sheet_decode::values::take_easing` meets its contract: one case a position.
use native.Mathlib.Omega.{arith}
use Rattle.ast.specs.declared.EasingSpec.TheVariants as easing
use Rattle.sheet.specs.Sheet.{easings, split_easing}
use Rattle.sheet_decode.proofs.ReadLaws.{◌&◌}
use Rattle.sheet_decode.proofs.ReadLaws as laws
use Rattle.sheet_decode.proofs.values.take_easing.Goals as goal

pub returns-in-0 : goal.returns-in-0
returns-in-0 c =
    laws.chosen
    (easings c.args.n)
    (split_easing c.args.n)
    0
    c.take_byte-k.ensures.reads
    c.in-0.is
    c.take_named.ensures
    (λ x e. e)

pub returns-in-1 : goal.returns-in-1
returns-in-1 c =
    laws.chosen
    (easings c.args.n)
    (split_easing c.args.n)
    1
    c.take_byte-k.ensures.reads
    c.in-1.is
    c.take_bezier.ensures
    (λ x e. e)

pub returns-in-2 : goal.returns-in-2
returns-in-2 c =
    laws.chosen
    (easings c.args.n)
    (split_easing c.args.n)
    2
    c.take_byte-k.ensures.reads
    c.in-2.is
    c.take_field-m.ensures.reads
    (λ x e i. easing.Steps (e i))

pub returns-in-3 : goal.returns-in-3
returns-in-3 c =
    laws.chosen
    (easings c.args.n)
    (split_easing c.args.n)
    3
    c.take_byte-k.ensures.reads
    c.in-3.is
    c.take_field-m-in-3.ensures.reads
    (λ x e i. easing.Wiggle (e i))

pub returns-in-4 : goal.returns-in-4
returns-in-4 c =
    laws.chosen (easings c.args.n) (split_easing c.args.n) 4 c.take_byte-k.ensures.reads c.in-4.is
    (c.take_float-x.ensures & c.take_field-m-in-4.ensures.reads)
    (λ x e i. easing.Rough (e i).0 (e i).1)

pub returns-in_default : goal.returns-in_default
returns-in_default c =
    laws.chosen (easings c.args.n) (split_easing c.args.n) 5 c.take_byte-k.ensures.reads
    (omega (arith, c.take_byte-k.ensures.small))
    (c.take_float-x-in_default.ensures & c.take_float-y.ensures) (λ x e i. easing.SlowMo (e i).0 (e i).1)
