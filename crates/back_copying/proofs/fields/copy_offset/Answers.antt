-- `back_copying::fields::copy_offset` meets its contract.
use Rattle.fresh.specs.Fresh.{two, offset}
use Rattle.back_copying.proofs.CopyLaws.{behind, ◌then◌}
use Rattle.back_copying.proofs.fields.copy_offset.Goals as goal

pub returns : goal.returns
unfolding offset
returns c = behind (two "." ".") c.copy_f32-next.ensures c.put_pair.ensures then c.copy_f32.ensures
