-- `back_copying::values::copy_f32` meets its contract.
use Rattle.fresh.specs.Fresh.{f32}
use Rattle.back_copying.proofs.CopyLaws.{read-put}
use Rattle.back_copying.proofs.values.copy_f32.Goals as goal

pub returns : goal.returns
returns c = read-put f32 c.take_field-x.ensures.reads c.put_f32.ensures
