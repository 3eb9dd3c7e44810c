use Rattle.read_cursor.specs.WordMeans.{code_of}
use mathlib.Core.Path.{refl}
use Rattle.read_cursor.proofs.code.Goals as goal

pub returns : goal.returns
unfolding code_of
returns c = refl
