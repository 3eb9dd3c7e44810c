use Rattle.read_cursor.specs.WordMeans.{rounded_of}
use mathlib.Core.Path.{refl}
use Rattle.read_cursor.proofs.rounded.Goals as goal

pub returns : goal.returns
unfolding rounded_of
returns c = refl
