-- `sheet_shape::walk::pass_node` and `sheet_shape::walk::pass_nodes` meet their contracts: a node is its record and then the nodes in it.
use Rattle.std.proofs.Common.{arith, refl}
use Rattle.sheet.specs.Sheet.{inner_of}
use Rattle.sheet_shape.proofs.FrameLaws.{wrap_lt}
use Rattle.sheet_shape.proofs.NodeLaws as laws
use Rattle.sheet_shape.proofs.walk.+pass_node_pass_nodes.Goals as goal

pub pass_node-returns-then-s-at : goal.pass_node-returns-then-s-at
pass_node-returns-then-s-at t c =
    let args = c.args in
    laws.node_end args.w args.n (inner_of args.w args.n args.depth) _ _ c.if-s-at.true c.lost.ensures

pub pass_node-returns-then-depth-eq0 : goal.pass_node-returns-then-depth-eq0
pass_node-returns-then-depth-eq0 t c =
    laws.too_deep c.args.w c.args.n c.args.depth _ c.if-depth-eq0.true
    (rw c.in-Container.is at c.take_node-r.ensures)
    c.lost-then-depth-eq0.ensures

pub pass_node-pass_nodes-requires : goal.pass_node-pass_nodes-requires
pass_node-pass_nodes-requires t c =
    (omega (arith, laws.moves c.args.w c.args.n c.take_node-r.ensures c.if-s-at.false), c.requires)

pub pass_node-returns-in-Leaf : goal.pass_node-returns-in-Leaf
pass_node-returns-in-Leaf t c =
    laws.a_leaf c.args.w c.args.n c.args.depth (rw c.in-Leaf.is at c.take_node-r.ensures)

pub pass_node-returns-else-depth-eq0 : goal.pass_node-returns-else-depth-eq0
pass_node-returns-else-depth-eq0 t c =
    laws.a_container c.args.w c.args.n c.args.depth _ (omega arith)
    (rw c.in-Container.is at c.take_node-r.ensures)
    c.pass_nodes.ensures

pub pass_nodes-loop-init : goal.pass_nodes-loop-init
pass_nodes-loop-init t c =
    let w = c.args.w in
    let n = c.args.n in (
      omega arith,
      omega arith,
      laws.going_start w n (inner_of w n c.args.depth) c.args.s.now c.args.at c.args.count,
    )

pub pass_nodes-pass_node-node-requires : goal.pass_nodes-pass_node-node-requires
pass_nodes-pass_node-node-requires t c = (omega (arith, c.loop.invariant.0), c.requires)

pub pass_nodes-loop-preserved : goal.pass_nodes-loop-preserved
pass_nodes-loop-preserved t c =
    let w = c.args.w in
    let n = c.args.n in (
      omega (arith, laws.nearer c.pass_node-node.ensures, c.loop.invariant.0),
      wrap_lt _ _ refl,
      laws.going_next w n (inner_of w n c.args.depth) _ _ _ _ _ _ _ _ _ c.loop-test.true
          c.pass_node-node.ensures
          refl c.loop.invariant.2,
    )

pub pass_nodes-returns : goal.pass_nodes-returns
pass_nodes-returns t c =
    let w = c.args.w in
    let n = c.args.n in
    laws.going_done w n (inner_of w n c.args.depth) _ _ _ _ _ _ c.loop-test.false c.loop.invariant.1 c.loop.invariant.2
