-- A node, the containers and a list of nodes, which call each other, meet their contracts.
use native.Mathlib.Omega.{arith}
use mathlib.Core.Path.{sym, ◌∙◌}
use Rattle.ast.specs.Tree.{Nodes}
use Rattle.grammar.specs.Grammar.{parse_group, parse_stagger, block, containers}
use Rattle.sheet_encode.proofs.OverLaws.{writes_keeps}
use Rattle.read_blocks.proofs.HeadLaws.{sequence_went, parallel_went}
use Rattle.read_blocks.proofs.BlockLaws.{node_leaf, keyword_headed, node_container, head_counted, head_block, head_refused}
use Rattle.read_blocks.proofs.BlockLaws.{block_reached, inside_refused, block_went, step_end, step-pass, step_refused, step_node}
use Rattle.read_blocks.proofs.BlockLaws.{growing_start, growing_standing, growing_end, growing_refused, growing_more}
use Rattle.read_blocks.proofs.+nodes_step_parse_block_parse_group_parse_node_parse_nodes_parse_parallel_parse_sequence_parse_stagger.Goals as goal

pub nodes_step-returns-then-ends : goal.nodes_step-returns-then-ends
nodes_step-returns-then-ends t c =
    let r = c.requires.ready in
    step_end _ _ _ r (sym (c.ends.ensures c.args.text.now r) ∙ c.if-ends.true)

pub nodes_step-returns-then-sees : goal.nodes_step-returns-then-sees
nodes_step-returns-then-sees t c =
    let r = c.requires.ready in
    let e = sym (c.ends.ensures c.args.text.now r) ∙ c.if-ends.false in
    let f = sym (c.sees.ensures c.args.text.now r) ∙ c.if-sees.true in
    step-pass _ _ c.args.t r e f c.advance-next.ensures

pub nodes_step-overflow_add-result-in-Is : goal.nodes_step-overflow_add-result-in-Is
nodes_step-overflow_add-result-in-Is t c =
    let h = rw c.in-Is.is at c.parse_node.ensures in
    omega (arith, h.few, c.requires.few, h.went.took.ready.high, c.requires.reached.short)

pub nodes_step-returns-in-Refused : goal.nodes_step-returns-in-Refused
nodes_step-returns-in-Refused t c =
    let r = c.requires.ready in
    let e = sym (c.ends.ensures c.args.text.now r) ∙ c.if-ends.false in
    let f = sym (c.sees.ensures c.args.text.now r) ∙ c.if-sees.false in
    step_refused c.args.sheet.now c.args.depth c.args.t r e f (rw c.in-Refused.is at c.parse_node.ensures)

pub nodes_step-returns-in-Is : goal.nodes_step-returns-in-Is
nodes_step-returns-in-Is t c =
    let r = c.requires.ready in
    let e = sym (c.ends.ensures c.args.text.now r) ∙ c.if-ends.false in
    let f = sym (c.sees.ensures c.args.text.now r) ∙ c.if-sees.false in
    step_node c.args.sheet.now c.args.depth c.args.t r e f (rw c.in-Is.is at c.parse_node.ensures)

pub parse_block-overflow_sub-depth : goal.parse_block-overflow_sub-depth
parse_block-overflow_sub-depth t c = omega (arith, (rw c.in-Is.is at c.open_block.ensures).1)

pub parse_block-parse_nodes-requires : goal.parse_block-parse_nodes-requires
parse_block-parse_nodes-requires t c =
    let z = rw c.in-Is.is at c.open_block.ensures in
    (omega (arith, c.decreases, z.0.low, z.0.ready.high), (z.0.ready, block_reached z.0 _ z.1 c.requires.1))

pub parse_block-patch_count-requires : goal.parse_block-patch_count-requires
parse_block-patch_count-requires t c = omega (arith, c.requires.1.low, c.requires.1.short, c.requires.0.high)

pub parse_block-leave_group-requires : goal.parse_block-leave_group-requires
parse_block-leave_group-requires t c = (rw c.in-Is-parse_nodes.is at c.parse_nodes.ensures).went.took.ready

pub parse_block-overflow_add-result : goal.parse_block-overflow_add-result
parse_block-overflow_add-result t c =
    let g = rw c.in-Is-parse_nodes.is at c.parse_nodes.ensures in
    omega (arith, g.few, g.went.took.ready.high, c.requires.1.short)

pub parse_block-returns-in-Refused : goal.parse_block-returns-in-Refused
parse_block-returns-in-Refused t c = rw c.in-Refused.is at c.open_block.ensures

pub parse_block-returns-in-Refused-parse_nodes : goal.parse_block-returns-in-Refused-parse_nodes
parse_block-returns-in-Refused-parse_nodes t c =
    let z = rw c.in-Is.is at c.open_block.ensures in
    inside_refused z.0 _ z.1 (rw c.in-Refused-parse_nodes.is at c.parse_nodes.ensures)

pub parse_block-returns-in-Is-parse_nodes : goal.parse_block-returns-in-Is-parse_nodes
parse_block-returns-in-Is-parse_nodes t c =
    let z = rw c.in-Is.is at c.open_block.ensures in
    block_went z.0 _ z.1 (rw c.in-Is-parse_nodes.is at c.parse_nodes.ensures) c.patch_count.ensures c.leave_group.ensures

pub parse_group-parse_block-requires : goal.parse_group-parse_block-requires
parse_group-parse_block-requires t c =
    let h = rw c.in-Is.is at c.group_head.ensures in
    (omega (arith, c.decreases, h.took.low), (h.took.ready, head_counted h c.requires.1))

pub parse_group-returns-in-Refused : goal.parse_group-returns-in-Refused
parse_group-returns-in-Refused t c = head_refused c.args.text.now c.args.c parse_group c.args.depth (rw c.in-Refused.is at c.group_head.ensures)

pub parse_group-returns-in-Is : goal.parse_group-returns-in-Is
parse_group-returns-in-Is t c = head_block (rw c.in-Is.is at c.group_head.ensures) _ _ c.parse_block.result c.parse_block.ensures

pub parse_stagger-parse_block-requires : goal.parse_stagger-parse_block-requires
parse_stagger-parse_block-requires t c =
    let h = rw c.in-Is.is at c.stagger_head.ensures in
    (omega (arith, c.decreases, h.took.low), (h.took.ready, head_counted h c.requires.1))

pub parse_stagger-returns-in-Refused : goal.parse_stagger-returns-in-Refused
parse_stagger-returns-in-Refused t c = head_refused c.args.text.now c.args.c parse_stagger c.args.depth (rw c.in-Refused.is at c.stagger_head.ensures)

pub parse_stagger-returns-in-Is : goal.parse_stagger-returns-in-Is
parse_stagger-returns-in-Is t c = head_block (rw c.in-Is.is at c.stagger_head.ensures) _ _ c.parse_block.result c.parse_block.ensures

pub parse_node-parse_sequence-requires : goal.parse_node-parse_sequence-requires
parse_node-parse_sequence-requires t c =
    let g = rw c.in-Container.is at c.begin_node.ensures in
    (omega (arith, c.decreases, g.low, g.ready.high), (g.ready, keyword_headed g c.requires.1))

pub parse_node-parse_parallel-requires : goal.parse_node-parse_parallel-requires
parse_node-parse_parallel-requires t c =
    let g = rw c.in-Container.is at c.begin_node.ensures in
    (omega (arith, c.decreases, g.low, g.ready.high), (g.ready, keyword_headed g c.requires.1))

pub parse_node-parse_group-requires : goal.parse_node-parse_group-requires
parse_node-parse_group-requires t c =
    let g = rw c.in-Container.is at c.begin_node.ensures in
    (omega (arith, c.decreases, g.low, g.ready.high), (g.ready, keyword_headed g c.requires.1))

pub parse_node-parse_stagger-requires : goal.parse_node-parse_stagger-requires
parse_node-parse_stagger-requires t c =
    let g = rw c.in-Container.is at c.begin_node.ensures in
    (omega (arith, c.decreases, g.low, g.ready.high), (g.ready, keyword_headed g c.requires.1))

pub parse_node-returns-in-Refused : goal.parse_node-returns-in-Refused
parse_node-returns-in-Refused t c = (rw c.in-Refused.is at c.begin_node.ensures) (block c.args.depth)

pub parse_node-returns-in-Leaf : goal.parse_node-returns-in-Leaf
parse_node-returns-in-Leaf t c = node_leaf c.args.depth (rw c.in-Leaf.is at c.begin_node.ensures)

pub parse_node-returns-in-0 : goal.parse_node-returns-in-0
unfolding containers
parse_node-returns-in-0 t c =
    node_container (rw c.in-Container.is at c.begin_node.ensures) _ _ c.parse_sequence.result
    (λ z. c.parse_sequence.ensures, (λ z. absurd (omega arith), (λ z. absurd (omega arith), (λ z. absurd (omega arith), tt))))

pub parse_node-returns-in-1 : goal.parse_node-returns-in-1
unfolding containers
parse_node-returns-in-1 t c =
    node_container (rw c.in-Container.is at c.begin_node.ensures) _ _ c.parse_parallel.result
    (λ z. absurd (omega arith), (λ z. c.parse_parallel.ensures, (λ z. absurd (omega arith), (λ z. absurd (omega arith), tt))))

pub parse_node-returns-in-2 : goal.parse_node-returns-in-2
unfolding containers
parse_node-returns-in-2 t c =
    node_container (rw c.in-Container.is at c.begin_node.ensures) _ _ c.parse_group.result
    (λ z. absurd (omega arith), (λ z. absurd (omega arith), (λ z. c.parse_group.ensures, (λ z. absurd (omega arith), tt))))

pub parse_node-returns-in_default : goal.parse_node-returns-in_default
unfolding containers
parse_node-returns-in_default t c =
    node_container (rw c.in-Container.is at c.begin_node.ensures) _ _ c.parse_stagger.result
    (λ z. absurd (omega arith), (λ z. absurd (omega arith), (λ z. absurd (omega arith), (λ z. c.parse_stagger.ensures, tt))))

pub parse_nodes-loop-r-init : goal.parse_nodes-loop-r-init
parse_nodes-loop-r-init t c = growing_start c.args.sheet.now c.args.out c.args.depth c.requires.0

pub parse_nodes-nodes_step-requires : goal.parse_nodes-nodes_step-requires
parse_nodes-nodes_step-requires t c = (omega (arith, c.decreases, c.loop-r.invariant.listed.low), growing_standing c.loop-r.invariant c.requires.1)

pub parse_nodes-shape_of-sheet-in-Refused : goal.parse_nodes-shape_of-sheet-in-Refused
parse_nodes-shape_of-sheet-in-Refused t c = c.nodes_step.auto.sheet ∙ writes_keeps c.loop-r.invariant.writes

pub parse_nodes-shape_of-sheet-in-Done : goal.parse_nodes-shape_of-sheet-in-Done
parse_nodes-shape_of-sheet-in-Done t c = c.nodes_step.auto.sheet ∙ writes_keeps c.loop-r.invariant.writes

pub parse_nodes-returns-in-Refused : goal.parse_nodes-returns-in-Refused
parse_nodes-returns-in-Refused t c = growing_refused c.loop-r.invariant (rw c.in-Refused.is at c.nodes_step.ensures)

pub parse_nodes-returns-in-Done : goal.parse_nodes-returns-in-Done
parse_nodes-returns-in-Done t c = growing_end c.loop-r.invariant (rw c.in-Done.is at c.nodes_step.ensures)

pub parse_nodes-loop-r-smaller : goal.parse_nodes-loop-r-smaller
parse_nodes-loop-r-smaller t c =
    let z = rw c.in-More.is at c.nodes_step.ensures in
    omega (arith, (z.took Nodes.none).low, (z.took Nodes.none).ready.high)

pub parse_nodes-loop-r-preserved : goal.parse_nodes-loop-r-preserved
parse_nodes-loop-r-preserved t c = growing_more c.loop-r.invariant (rw c.in-More.is at c.nodes_step.ensures)

pub parse_parallel-parse_block-requires : goal.parse_parallel-parse_block-requires
parse_parallel-parse_block-requires t c =
    (omega (arith, c.decreases), (c.requires.0, head_counted (parallel_went c.args.sheet.now c.args.out c.requires.0) c.requires.1))

pub parse_parallel-returns : goal.parse_parallel-returns
parse_parallel-returns t c = head_block (parallel_went _ _ c.requires.0) _ _ c.parse_block.result c.parse_block.ensures

pub parse_sequence-parse_block-requires : goal.parse_sequence-parse_block-requires
parse_sequence-parse_block-requires t c =
    (omega (arith, c.decreases), (c.requires.0, head_counted (sequence_went c.args.sheet.now c.args.out c.requires.0) c.requires.1))

pub parse_sequence-returns : goal.parse_sequence-returns
parse_sequence-returns t c = head_block (sequence_went _ _ c.requires.0) _ _ c.parse_block.result c.parse_block.ensures
