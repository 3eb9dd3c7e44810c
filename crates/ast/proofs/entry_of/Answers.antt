-- `ast::entry_of` meets its contract: one case a value.
use Rattle.number.specs.Number.{f32}
use Rattle.ast.proofs.entry_of.Goals as goal

pub returns-in-Array : goal.returns-in-Array
unfolding f32
returns-in-Array c = rw c.in-Array.is
