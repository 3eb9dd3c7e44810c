-- `back_leaves::leaves::put_wave` meets its contract.
use Rattle.pieces.specs.Pieces.{Piece}
use mathlib.Core.List.{[], ◌∷◌}
use mathlib.Core.Path.{refl, ap}
use native.Mathlib.Omega.{arith}
use Rattle.text.specs.Words.{entries}
use Rattle.digits.specs.Numeral.{all}
use Rattle.pieces.specs.Pieces.{a_name, word_like}
use Rattle.fresh.specs.Fresh.{choose, wave_names}
use Rattle.back_copying.specs.WordMeans.{all_words}
use Rattle.back_copying.proofs.CopyLaws.{one_piece, called}
use Rattle.back_leaves.proofs.ThenLaws.{noise_wordless}
use Rattle.back_leaves.proofs.leaves.put_wave.Goals as goal

pub put_choice-requires : goal.put_choice-requires
unfolding all_words entries word_like all
put_choice-requires c = (refl, omega (arith, c.if-kind-lt4.true))

pub returns-then-kind-lt4 : goal.returns-then-kind-lt4
unfolding entries
returns-then-kind-lt4 c = c.put_choice.ensures wave_names refl

pub returns : goal.returns
unfolding choose
returns c = called (one_piece (a_name []) c.put_name.ensures) (λ ps. ap (λ (x : Piece). x ∷ ps) (noise_wordless _ c.if-kind-lt4.false))
