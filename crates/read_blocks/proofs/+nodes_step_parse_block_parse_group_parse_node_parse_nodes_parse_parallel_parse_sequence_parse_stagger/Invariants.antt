-- The measures: bytes left in the text fall from a node to the nodes in it.
use Rattle.std.proofs.Common.{◌+◌, ◌-◌, ◌*◌, length}
use Rattle.read_cursor.specs.WordMeans.{at_of}
use Rattle.read_blocks.proofs.BlockLaws.{Growing}
use Rattle.read_blocks.proofs.+nodes_step_parse_block_parse_group_parse_node_parse_nodes_parse_parallel_parse_sequence_parse_stagger.Given as goal

abbrev pub decreases-nodes_step : goal.decreases-nodes_step
decreases-nodes_step l = 4 * (length l.text.now - at_of l.t.next) + 2

abbrev pub decreases-parse_block : goal.decreases-parse_block
decreases-parse_block l = 4 * (length l.text.now - at_of l.c) + 3

abbrev pub decreases-parse_group : goal.decreases-parse_group
decreases-parse_group l = 4 * (length l.text.now - at_of l.c) + 4

abbrev pub decreases-parse_node : goal.decreases-parse_node
decreases-parse_node l = 4 * (length l.text.now - at_of l.c) + 1

abbrev pub decreases-parse_nodes : goal.decreases-parse_nodes
decreases-parse_nodes l = 4 * (length l.text.now - at_of l.c) + 3

abbrev pub decreases-parse_parallel : goal.decreases-parse_parallel
decreases-parse_parallel l = 4 * (length l.text.now - at_of l.c) + 4

abbrev pub decreases-parse_sequence : goal.decreases-parse_sequence
decreases-parse_sequence l = 4 * (length l.text.now - at_of l.c) + 4

abbrev pub decreases-parse_stagger : goal.decreases-parse_stagger
decreases-parse_stagger l = 4 * (length l.text.now - at_of l.c) + 4

abbrev pub invariant-parse_nodes-loop-r : goal.invariant-parse_nodes-loop-r
invariant-parse_nodes-loop-r l = Growing l.text l.initial.sheet l.sheet l.initial.t.next l.out l.depth l.t

abbrev pub decreases-parse_nodes-loop-r : goal.decreases-parse_nodes-loop-r
decreases-parse_nodes-loop-r l = length l.text - at_of l.t.next
