use mathlib.Core.Path.{refl}
use Rattle.read_cursor.specs.WordMeans.{head_word, tok_code}
use Rattle.read_cursor.proofs.mark_word.Goals as goal

pub returns : goal.returns
unfolding head_word tok_code
returns c = refl
