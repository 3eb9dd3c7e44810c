-- `sheet_shape::walk::pass_sheet` meets its contract: the head's count, and so many nodes.
use Rattle.ast.specs.Tree.{width}
use Rattle.sheet.specs.Sheet.{forest_of, inner_of}
use Rattle.sheet_decode.proofs.ReadLaws as laws
use Rattle.sheet_shape.proofs.walk.pass_sheet.Goals as goal

pub returns : goal.returns
returns c =
    let w = c.args.w in
    let n = c.args.n in
    laws.counted width (forest_of w n (inner_of w n 16)) c.take_field-count.ensures.reads c.pass_nodes.ensures
