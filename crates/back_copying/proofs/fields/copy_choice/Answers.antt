-- `back_copying::fields::copy_choice` meets its contract.
use Rattle.fresh.specs.Fresh.{choose}
use Rattle.back_copying.proofs.CopyLaws.{read-put}
use Rattle.back_copying.proofs.fields.copy_choice.Goals as goal

pub returns : goal.returns
returns c = λ ns e. read-put (choose ns) c.take_byte-x.ensures.reads (c.put_choice.ensures ns e)
