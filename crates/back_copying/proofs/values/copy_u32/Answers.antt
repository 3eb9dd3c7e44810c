-- `back_copying::values::copy_u32` meets its contract.
use Rattle.digits.specs.Numeral.{counted}
use Rattle.pieces.specs.Pieces.{a_numeral}
use Rattle.fresh.specs.Fresh.{u32}
use Rattle.back_copying.proofs.CopyLaws.{one_piece, read-put}
use Rattle.back_copying.proofs.values.copy_u32.Goals as goal

pub returns : goal.returns
unfolding u32
returns c = read-put u32 c.take_field-x.ensures.reads (one_piece (a_numeral counted _) c.put_count.ensures)
