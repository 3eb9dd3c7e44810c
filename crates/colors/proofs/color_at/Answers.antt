-- `colors::color_at` meets its contract: a colour's number has three bytes.
use native.Mathlib.Omega.{arith}
use Rattle.colors.proofs.NameLaws.{value_small}
use Rattle.colors.proofs.color_at.Goals as goal

pub overflow_cast-result : goal.overflow_cast-result
overflow_cast-result c = omega (arith, value_small c.args.i _ c.value_at-v.ensures)
