-- `back_copying::values::copy_name` meets its contract.
use Rattle.pieces.specs.Pieces.{a_name}
use Rattle.back_copying.proofs.CopyLaws.{span_put}
use Rattle.back_copying.proofs.values.copy_name.Goals as goal

pub returns : goal.returns
returns c = span_put a_name c.args.text.now _ c.take_span-x.ensures c.part.ensures c.put_name.ensures
