-- `back_spelling::PieceWriter::put_percent` meets its contract.
use Rattle.back_spelling.proofs.NumberLaws.{found-percent}
use Rattle.back_spelling.specs.Means.{page_of}
use Rattle.back_spelling.proofs.PieceWriter.put_percent.Goals as goal

pub returns : goal.returns
returns c =
    let args = c.args in
    found-percent args.bits (page_of args.self.now) _ c.percent_of.ensures.result_value
    c.put_decimal.ensures
