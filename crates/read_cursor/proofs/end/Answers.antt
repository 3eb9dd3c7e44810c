use Rattle.read_cursor.specs.WordMeans.{end_of}
use mathlib.Core.Path.{refl}
use Rattle.read_cursor.proofs.end.Goals as goal

pub returns : goal.returns
unfolding end_of
returns c = refl
