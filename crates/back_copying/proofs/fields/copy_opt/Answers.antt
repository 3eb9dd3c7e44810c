-- `back_copying::fields::copy_opt` meets its contract.
use Rattle.back_copying.specs.WordMeans.{absent, present}
use Rattle.back_copying.proofs.fields.copy_opt.Goals as goal

pub returns-then-k-eq0 : goal.returns-then-k-eq0
returns-then-k-eq0 g c = absent c.take_byte-k.ensures c.if-k-eq0.true

pub returns : goal.returns
returns g c = present _ _ c.take_byte-k.ensures c.if-k-eq0.false c.put_field.ensures c.copy.ensures
