-- `back_copying::values::copy_truth` meets its contract.
use Rattle.fresh.specs.Fresh.{truth}
use Rattle.back_copying.proofs.CopyLaws.{read-put}
use Rattle.back_copying.proofs.values.copy_truth.Goals as goal

pub returns : goal.returns
returns c = read-put truth c.take_flag-x.ensures c.put_truth.ensures
