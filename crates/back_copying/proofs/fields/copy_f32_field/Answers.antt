-- `back_copying::fields::copy_f32_field` meets its contract.
use Rattle.fresh.specs.Fresh.{f32}
use Rattle.back_copying.proofs.CopyLaws.{under_name}
use Rattle.back_copying.proofs.fields.copy_f32_field.Goals as goal

pub returns : goal.returns
returns c = λ n e. under_name n f32 e c.put_field.ensures c.copy_f32.ensures
