-- What falls from a call to the next: bytes left, from a node to the nodes in it.
use Rattle.std.proofs.Common.{◌+◌, ◌-◌, ◌*◌, ◌^◌, ◌<◌, ◌≤◌, length}
use Rattle.sheet.specs.Sheet.{inner_of}
use Rattle.sheet_shape.proofs.NodeLaws as laws
use Rattle.sheet_shape.proofs.walk.+pass_node_pass_nodes.Given as goal

abbrev pub decreases-pass_node : goal.decreases-pass_node
decreases-pass_node l = 2 * (length l.s.now - l.at)

abbrev pub decreases-pass_nodes : goal.decreases-pass_nodes
decreases-pass_nodes l = 2 * (length l.s.now - l.at) + 1

abbrev pub invariant-pass_nodes-loop : goal.invariant-pass_nodes-loop
invariant-pass_nodes-loop l =
    (length l.s - l.next ≤ length l.s - l.at) × (l.numbers < 2 ^ 64)
    × laws.Going l.w l.n (inner_of l.w l.n l.depth) l.s l.at l.count l.next l.counter l.numbers
