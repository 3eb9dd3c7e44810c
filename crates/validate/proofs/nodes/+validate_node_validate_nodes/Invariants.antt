use Prim.Native.Nat.{◌+◌, ◌*◌, ◌-◌, ◌≤◌}
use lib.ListN.{length}
use Rattle.sheet.specs.Sheet.{inner}
use Rattle.validate.specs.WalkMeans.{found_of, Reached}
use Rattle.validate.proofs.WalkLaws as walks
use Rattle.validate.proofs.nodes.+validate_node_validate_nodes.Given as goal

abbrev pub decreases-validate_node : goal.decreases-validate_node
decreases-validate_node l = 2 * (length l.s.now - l.at)

abbrev pub decreases-validate_nodes : goal.decreases-validate_nodes
decreases-validate_nodes l = 2 * (length l.s.now - l.at) + 1

abbrev pub invariant-validate_nodes-loop : goal.invariant-validate_nodes-loop
invariant-validate_nodes-loop l =
    Reached l.s l.a l.o × (length l.s - l.a ≤ length l.s - l.at)
    × walks.Going l.list l.text l.s (inner (length l.text) l.depth) l.ordinal l.at l.count (found_of l.found) l.a l.o l.counter
