-- `sheet_decode::values::take_loop` meets its contract: one case a position.
use mathlib.Core.Path.{refl}
use native.Mathlib.Omega.{arith}
use Rattle.ast.specs.declared.LoopSpec.TheVariants as loop
use Rattle.sheet_decode.specs.Means.{same}
use Rattle.sheet.specs.Sheet.{loops, split_loop}
use Rattle.sheet_decode.proofs.ReadLaws as laws
use Rattle.sheet_decode.proofs.values.take_loop.Goals as goal

pub returns-in-0 : goal.returns-in-0
returns-in-0 c = laws.chosen loops split_loop 0 {f = same} c.take_byte-k.ensures.reads c.in-0.is (laws.nothing _ _) (λ x e. refl)

pub returns-in-1 : goal.returns-in-1
returns-in-1 c =
    laws.chosen loops split_loop 1 c.take_byte-k.ensures.reads c.in-1.is c.take_field-m.ensures.reads
    (λ x e i. loop.Times (e i))

pub returns-in-2 : goal.returns-in-2
returns-in-2 c = laws.chosen loops split_loop 2 {f = same} c.take_byte-k.ensures.reads c.in-2.is (laws.nothing _ _) (λ x e. refl)

pub returns-in-3 : goal.returns-in-3
returns-in-3 c = laws.chosen loops split_loop 3 {f = same} c.take_byte-k.ensures.reads c.in-3.is (laws.nothing _ _) (λ x e. refl)

pub returns-in_default : goal.returns-in_default
returns-in_default c =
    laws.chosen loops split_loop 4 c.take_byte-k.ensures.reads (omega (arith, c.take_byte-k.ensures.small))
    c.take_field-m-in_default.ensures.reads
    (λ x e i. loop.PingPongTimes (e i))
