-- `back_copying::values::copy_string` meets its contract.
use Rattle.pieces.specs.Pieces.{a_string}
use Rattle.back_copying.proofs.CopyLaws.{span_put}
use Rattle.back_copying.proofs.values.copy_string.Goals as goal

pub returns : goal.returns
returns c =
    span_put a_string c.args.text.now _ c.take_span-x.ensures c.part.ensures
    c.put_string.ensures
