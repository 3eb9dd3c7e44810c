use Rattle.read_cursor.specs.WordMeans.{notes_of}
use mathlib.Core.Path.{refl}
use Rattle.read_cursor.proofs.notes.Goals as goal

pub returns : goal.returns
unfolding notes_of
returns c = refl
