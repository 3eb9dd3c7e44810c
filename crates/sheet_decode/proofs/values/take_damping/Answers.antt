-- `sheet_decode::values::take_damping` meets its contract: one case a position.
use native.Mathlib.Omega.{arith}
use Rattle.ast.specs.declared.DampingMode.TheVariants as damping
use Rattle.sheet.specs.Sheet.{dampings, split_damping}
use Rattle.sheet_decode.proofs.ReadLaws.{◌&◌}
use Rattle.sheet_decode.proofs.ReadLaws as laws
use Rattle.sheet_decode.proofs.values.take_damping.Goals as goal

pub returns-then-k-eq0 : goal.returns-then-k-eq0
returns-then-k-eq0 c =
    laws.chosen dampings split_damping 0 c.take_byte-k.ensures.reads c.if-k-eq0.true c.take_float-x.ensures
    (λ x e i. damping.CriticallyDamped (e i))

pub returns-then-k-eq1 : goal.returns-then-k-eq1
returns-then-k-eq1 c =
    laws.chosen dampings split_damping 1 c.take_byte-k.ensures.reads c.if-k-eq1.true
    (c.take_float-x.ensures & c.take_float-y.ensures)
    (λ x e i. damping.Overdamped (e i).0 (e i).1)

pub returns : goal.returns
returns c =
    laws.chosen dampings split_damping 2 c.take_byte-k.ensures.reads
    (omega (arith, c.take_byte-k.ensures.small, c.if-k-eq0.false, c.if-k-eq1.false))
    (c.take_float-x.ensures & c.take_float-y.ensures) (λ x e i. damping.Underdamped (e i).0 (e i).1)
