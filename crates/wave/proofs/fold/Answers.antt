-- `wave::fold` meets its contract.
use Rattle.drawing.proofs.WaveLaws as laws
use mathlib.Core.Path.{sym}
use native.Mathlib.Omega.{arith}
use Rattle.wave.proofs.fold.Goals as goal

pub returns-then-p-le64 : goal.returns-then-p-le64
returns-then-p-le64 c = (sym (laws.fold_low _ c.if-p-le64.true), c.if-p-le64.true)

pub returns-else-p-le64 : goal.returns-else-p-le64
returns-else-p-le64 c = (sym (laws.fold_high _ c.if-p-le64.false), omega (arith, c.if-p-le64.false))
