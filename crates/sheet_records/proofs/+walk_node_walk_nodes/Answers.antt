-- `sheet_records::walk_node` and `sheet_records::walk_nodes` meet their contracts: a node is its record and then the nodes in it.
use native.Mathlib.Omega.{arith}
use Rattle.sheet_decode.specs.Means.{passed}
use Rattle.sheet.specs.Sheet.{inner}
use Rattle.sheet_records.proofs.RecordLaws as records
use Rattle.sheet_records.proofs.WalkLaws as walks
use Rattle.sheet_records.proofs.SeekLaws.{seeks_pass, seeks_lost}
use Rattle.sheet_records.proofs.+walk_node_walk_nodes.Goals as goal

pub walk_node-returns-then-depth-eq0 : goal.walk_node-returns-then-depth-eq0
walk_node-returns-then-depth-eq0 t c =
    let o = c.lost-then-depth-eq0.ensures in
    let r = c.take_record-r.ensures in
    record {
      reads = walks.too_deep c.args.n c.args.depth _ passed tt c.if-depth-eq0.true (rw c.in-Container.is at r)
          (walks.is_container c.in-Container.count) o;
      seeks = λ ns i e k. seeks_lost _ _ ns e (seeks_pass _ _ ns e k c.if-s-at.false r c.pass.ensures) o;
    }

pub walk_node-walk_nodes-requires : goal.walk_node-walk_nodes-requires
walk_node-walk_nodes-requires t c = (omega (arith, records.moves _ c.take_record-r.ensures c.if-s-at.false), tt)

pub walk_node-returns-in-Leaf : goal.walk_node-returns-in-Leaf
walk_node-returns-in-Leaf t c =
    let r = c.take_record-r.ensures in
    record {
      reads = walks.a_leaf c.args.n c.args.depth (rw c.in-Leaf.is at r) walks.is_leaf;
      seeks = λ ns i e k. seeks_pass _ _ ns e k c.if-s-at.false r c.pass.ensures;
    }

pub walk_node-returns-else-depth-eq0 : goal.walk_node-returns-else-depth-eq0
walk_node-returns-else-depth-eq0 t c =
    let r = c.take_record-r.ensures in
    let w = c.walk_nodes.ensures in
    record {
      reads = walks.a_container c.args.n c.args.depth _ passed tt (omega arith) (rw c.in-Container.is at r)
          (walks.is_container c.in-Container.count) w.reads;
      seeks = λ ns i e k. w.seeks ns i e (seeks_pass _ _ ns e k c.if-s-at.false r c.pass.ensures);
    }

pub walk_nodes-loop-init : goal.walk_nodes-loop-init
walk_nodes-loop-init t c = (
  omega arith,
  walks.going_start c.args.n (inner c.args.n c.args.depth) _ _ c.args.count,
  λ ns i e k. k,
)

pub walk_nodes-walk_node-next-requires : goal.walk_nodes-walk_node-next-requires
walk_nodes-walk_node-next-requires t c = (omega (arith, c.loop.invariant.0), tt)

pub walk_nodes-loop-preserved : goal.walk_nodes-loop-preserved
walk_nodes-loop-preserved t c =
    let w = c.walk_node-next.ensures in (
      omega (arith, walks.nearer w.reads, c.loop.invariant.0),
      walks.going_next c.args.n (inner c.args.n c.args.depth) _ _ _ _ _ _ c.loop-test.true w.reads c.loop.invariant.1,
      λ ns i e k. w.seeks ns i e (c.loop.invariant.2 ns i e k),
    )

pub walk_nodes-returns : goal.walk_nodes-returns
walk_nodes-returns t c = record {
  reads = walks.going_done c.args.n (inner c.args.n c.args.depth) _ _ _ _ _ c.loop-test.false c.loop.invariant.1;
  seeks = c.loop.invariant.2;
}
