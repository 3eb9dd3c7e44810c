-- `read_blocks::open_block` meets its contract.
use Rattle.read_blocks.proofs.BlockLaws.{no_brace, too_deep}
use Rattle.read_blocks.proofs.open_block.Goals as goal

pub returns-then-depth-eq0 : goal.returns-then-depth-eq0
returns-then-depth-eq0 c =
    rw c.place.ensures
    (too_deep c.args.text.now c.args.c _ c.args.depth c.requires
    (rw c.in-Is.is at c.mark.ensures) c.if-depth-eq0.true)

pub returns-in-Missing : goal.returns-in-Missing
returns-in-Missing c =
    let args = c.args in
    no_brace args.text.now args.c args.depth _ (rw c.in-Missing.is at c.mark.ensures)
