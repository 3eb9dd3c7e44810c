use Rattle.back_spelling.specs.Means.{page_of}
use Rattle.back_nodes.proofs.NodeLaws.{Going}
use Prim.Native.Nat.{◌+◌, ◌*◌, ◌-◌, ◌≤◌}
use lib.ListN.{length}
use Rattle.back_nodes.proofs.+copy_node_copy_nodes.Given as goal

abbrev pub decreases-copy_node : goal.decreases-copy_node
decreases-copy_node l = 2 * (length l.s.now - l.at)

abbrev pub decreases-copy_nodes : goal.decreases-copy_nodes
decreases-copy_nodes l = 2 * (length l.s.now - l.at) + 1

abbrev pub invariant-copy_nodes-loop-k : goal.invariant-copy_nodes-loop-k
invariant-copy_nodes-loop-k l =
    (length l.s - l.next ≤ length l.s - l.at) × Going l.text l.s (page_of l.fn.writer) l.at l.count l.next (page_of l.writer) l._k
