-- `wave::triangle` meets its contract.
use mathlib.Core.Path.{refl}
use Rattle.drawing.specs.Wave.{triangle_at}
use Rattle.wave.proofs.triangle.Goals as goal

pub returns : goal.returns
unfolding triangle_at
returns c = refl
