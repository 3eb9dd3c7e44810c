use Rattle.read_cursor.specs.WordMeans.{left_at}
use mathlib.Core.Path.{refl}
use Rattle.read_cursor.proofs.noted.Goals as goal

pub returns : goal.returns
unfolding left_at
returns c = refl
