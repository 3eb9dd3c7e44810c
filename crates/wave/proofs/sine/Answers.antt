-- `wave::sine` meets its contract: the constant is the definition's table.
use Rattle.drawing.specs.Table.{table}
use Rattle.drawing.specs.Wave.{sine_at}
use Rattle.wave.proofs.sine.Goals as goal

pub returns : goal.returns
unfolding table sine_at
returns c = c.from.ensures
