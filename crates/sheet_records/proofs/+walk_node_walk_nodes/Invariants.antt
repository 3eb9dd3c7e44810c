-- What falls from a call to the next: bytes left, from a node to the nodes in it.
use Rattle.std.proofs.Common.{◌-◌, ◌≡◌, ℕ, ◌+◌, ◌*◌, ◌≤◌, length}
use mathlib.Core.Option.{some}
use Rattle.sheet.specs.Sheet.{Forest, inner, decode}
use Rattle.sheet_records.specs.Means.{Seeks}
use Rattle.sheet_records.proofs.WalkLaws as walks
use Rattle.sheet_records.proofs.+walk_node_walk_nodes.Given as goal

abbrev pub decreases-walk_node : goal.decreases-walk_node
decreases-walk_node l = 2 * (length l.s.now - l.at)

abbrev pub decreases-walk_nodes : goal.decreases-walk_nodes
decreases-walk_nodes l = 2 * (length l.s.now - l.at) + 1

abbrev pub invariant-walk_nodes-loop : goal.invariant-walk_nodes-loop
invariant-walk_nodes-loop l =
    (length l.s - l.next ≤ length l.s - l.at) × walks.Going l.n (inner l.n l.depth) l.s l.at l.count l.next l.counter
    × ((ns : Forest) (i : ℕ) → decode l.n l.s ≡ some ns → Seeks l.n l.s ns i l.at l.initial.left l.initial.from
    → Seeks l.n l.s ns i l.next l.left l.from)
