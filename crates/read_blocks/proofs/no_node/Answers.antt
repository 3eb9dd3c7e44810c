-- `read_blocks::no_node` meets its contract.
use mathlib.Core.Path.{sym, ◌∙◌}
use Rattle.read_blocks.proofs.BeginLaws.{unknown_node, no_name_there}
use Rattle.read_blocks.proofs.no_node.Goals as goal

pub returns-then-sees_name : goal.returns-then-sees_name
returns-then-sees_name c b a out e blk =
    rw c.place.ensures
    (unknown_node c.requires c.advance.ensures e (sym c.sees_name.ensures ∙ c.if-sees_name.true) blk)

pub returns : goal.returns
returns c b a out e blk = rw c.place-2.ensures (no_name_there c.requires (sym c.sees_name.ensures ∙ c.if-sees_name.false) blk)
