-- `back::refused` meets its contract: the buffer is zeroed.
use native.Mathlib.Nat.{sub-zero}
use Rattle.back.proofs.refused.Goals as goal

pub returns : goal.returns
returns c = rw (c.clear.ensures, sub-zero)
