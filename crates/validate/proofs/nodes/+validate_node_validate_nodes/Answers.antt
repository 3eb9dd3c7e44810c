-- `validate::nodes::validate_node` and `validate_nodes` meet their contracts: bytes left fall; the loop keeps that what is told of
-- the nodes left is told of all.
use mathlib.Core.Path.{refl, ap, ◌∙◌}
use native.Mathlib.Omega.{arith}
use Rattle.sheet_records.proofs.RecordLaws.{moves}
use Rattle.sheet_records.proofs.WalkLaws.{nearer}
use Rattle.sheet.specs.Sheet.{inner}
use Rattle.text.specs.Words.{or_else}
use Rattle.validate.specs.WalkMeans.{found_of}
use Rattle.validate.proofs.KindLaws as kind-laws
use Rattle.validate.proofs.WalkLaws as walks
use Rattle.validate.proofs.nodes.+validate_node_validate_nodes.Goals as goal

pub validate_node-returns-then-head-le64 : goal.validate_node-returns-then-head-le64
validate_node-returns-then-head-le64 t c =
    walks.leaf_walk _ _ _ c.args.depth c.if-s-at.false c.requires.0 c.walk_leaf.ensures
    (kind-laws.track_record _ _ c.take_kind-k.ensures c.if-k-eq-TRACK.true
    (c.validate_keyframes-track.ensures _ _ c.take_head-head.ensures c.short_track-frames.ensures))

pub validate_node-returns-then-k-eq-TRACK : goal.validate_node-returns-then-k-eq-TRACK
validate_node-returns-then-k-eq-TRACK t c =
    walks.leaf_walk _ _ _ c.args.depth c.if-s-at.false c.requires.0 c.walk_leaf-then-k-eq-TRACK.ensures
    (kind-laws.track_record _ _ c.take_kind-k.ensures c.if-k-eq-TRACK.true
    (c.validate_keyframes-track-then-k-eq-TRACK.ensures _ _ c.take_head-head.ensures c.long_track-frames.ensures))

pub validate_node-returns-in_default : goal.validate_node-returns-in_default
validate_node-returns-in_default t c =
    walks.leaf_walk _ _ _ c.args.depth c.if-s-at.false c.requires.0 c.walk_leaf-in_default.ensures
    (rw c.in_default.is at (c.validate_record-r.ensures _ _ c.take_kind-k.ensures))

pub validate_node-returns-then-depth-eq0 : goal.validate_node-returns-then-depth-eq0
validate_node-returns-then-depth-eq0 t c =
    walks.deep_walk _ _ _ c.args.depth
    (rw c.in-Container.is at (c.validate_record-r.ensures _ _ c.take_kind-k.ensures))
    c.if-depth-eq0.true c.requires.0 c.walk_nowhere-then-depth-eq0.ensures

pub validate_node-validate_nodes-inside-requires : goal.validate_node-validate_nodes-inside-requires
validate_node-validate_nodes-inside-requires t c =
    let pre = c.requires in
    let l = c.if-s-at.false in
    let m = moves _ (c.validate_record-r.ensures _ _ c.take_kind-k.ensures) l in
    (omega (arith, m, l, c.decreases), ((omega (arith, m, pre.0.0), omega (arith, l, pre.0.0)), pre.1))

pub validate_node-returns : goal.validate_node-returns
validate_node-returns t c =
    walks.box_walk _ _ _ c.args.depth
    (rw c.in-Container.is at (c.validate_record-r.ensures _ _ c.take_kind-k.ensures))
    (omega (arith, c.if-depth-eq0.false)) c.validate_nodes-inside.ensures
    (ap found_of c.or.ensures ∙ walks.or_found _ _ ∙ ap (λ o. or_else o (found_of c.validate_nodes-inside.result.found)) c.at_ordinal.ensures) refl refl

pub validate_nodes-loop-init : goal.validate_nodes-loop-init
validate_nodes-loop-init t c = (c.requires.0, omega arith, walks.going_start _ _ _ (inner _ c.args.depth) _ _ _)

pub validate_nodes-loop-preserved : goal.validate_nodes-loop-preserved
validate_nodes-loop-preserved t c =
    let w = c.validate_node-w.ensures in (
      w.on,
      omega (arith, nearer w.reads, c.loop.invariant.1),
      walks.going_next _ _ _ _ _ _ _ c.loop.invariant.2 (omega arith) w.reads (ap found_of c.or-found.ensures ∙ walks.or_found _ _),
    )

pub validate_nodes-returns : goal.validate_nodes-returns
validate_nodes-returns t c = record { reads = walks.going_done _ _ _ _ _ _ _ c.loop.invariant.2 (omega arith); on = c.loop.invariant.0 }
