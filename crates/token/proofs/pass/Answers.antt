-- `token::pass` meets its contract; the loop keeps the answer: that from `at` on, with the closers that the words hold, is the one for the
-- text.
use mathlib.Core.Path.{refl}
use native.Mathlib.Omega.{arith}
use Rattle.token.proofs.SplitLaws.{from_zero}
use Rattle.token.proofs.pass.Goals as goal

pub loop-next-init : goal.loop-next-init
loop-next-init c = (refl, omega arith, omega arith, from_zero _ _)
