use Rattle.read_cursor.specs.WordMeans.{noting}
use mathlib.Core.Path.{refl}
use Rattle.read_cursor.proofs.noting.Goals as goal

pub returns : goal.returns
unfolding noting
returns c = refl
