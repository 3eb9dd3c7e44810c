use mathlib.Core.Path.{refl}
use Rattle.read_cursor.specs.WordMeans.{head_word}
use Rattle.read_cursor.proofs.end_word.Goals as goal

pub returns : goal.returns
unfolding head_word
returns c = λ k. refl
