-- `read_cursor::first_of` meets its contract.
use Rattle.read_cursor.proofs.CursorLaws.{left_none, left_some}
use native.Mathlib.Omega.{arith}
use Rattle.read_cursor.proofs.first_of.Goals as goal

pub returns-then-was-ne-NOTHING : goal.returns-then-was-ne-NOTHING
returns-then-was-ne-NOTHING c = rw (left_some _ c.if-was-ne-NOTHING.true)

pub returns : goal.returns
returns c = rw (left_none _ c.if-was-ne-NOTHING.false) (left_some _ (λ e. omega (arith, c.requires)))
