use native.Mathlib.Omega.{arith}
use Rattle.text.specs.Bytes.{at}
use mathlib.Core.Path.{refl}
use Rattle.read_cursor.proofs.WordLaws.{first_left, first-rounded}
use Rattle.read_cursor.proofs.first.Goals as goal

pub start-requires : goal.start-requires
start-requires c = (omega arith, c.requires, refl, omega (arith, first-rounded))

pub returns : goal.returns
returns c = rw (first_left, first-rounded) at c.start.ensures
