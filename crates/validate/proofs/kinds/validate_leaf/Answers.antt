-- `validate::kinds::validate_leaf` meets its contract: in each arm the kind is that arm's and the rules are those of its fields.
use mathlib.Core.Path.{refl}
use native.Mathlib.Omega.{arith}
use Rattle.ast.specs.Tree as tree
use Rattle.sheet_decode.proofs.ReadLaws.{◌&◌}
use Rattle.sheet_records.proofs.RecordLaws.{of_kind}
use Rattle.checking.specs.Rules.{validate_leaf}
use Rattle.sheet_nodes.proofs.StandLaws.{last-kind}
use Rattle.validate.proofs.KindLaws as kind-laws
use Rattle.validate.proofs.kinds.validate_leaf.Goals as goal

pub returns-in-0 : goal.returns-in-0
unfolding validate_leaf
returns-in-0 c =
    let args = c.args in
    λ from start b. rw c.leaf.ensures
    (of_kind 0 b c.in-0.is
    (b.start_at & c.take_tween-x.ensures)
    (λ x e. kind-laws.leaf_is args.list args.text.now x.0 (tree.tween x.1)
    (c.validate_tween.ensures x.1 (λ i. (e i).1))))

pub returns-in-1 : goal.returns-in-1
unfolding validate_leaf
returns-in-1 c =
    let args = c.args in
    λ from start b. rw c.leaf-in-1.ensures
    (of_kind 1 b c.in-1.is
    (b.start_at & c.take_spring-x.ensures)
    (λ x e. kind-laws.leaf_is args.list args.text.now x.0 (tree.spring x.1)
    (c.validate_spring.ensures x.1 (λ i. (e i).1))))

pub returns-in-7 : goal.returns-in-7
unfolding validate_leaf
returns-in-7 c =
    let args = c.args in
    λ from start b. rw c.leaf-in-7.ensures
    (of_kind 7 b c.in-7.is
    (b.start_at & c.take_path-x.ensures)
    (λ x e. kind-laws.leaf_is args.list args.text.now x.0 (tree.path x.1)
    (c.validate_path.ensures x.1 (λ i. (e i).1))))

pub returns-in-8 : goal.returns-in-8
unfolding validate_leaf
returns-in-8 c =
    let args = c.args in
    λ from start b. rw c.leaf-in-8.ensures
    (of_kind 8 b c.in-8.is
    (b.start_at & c.take_morph-x.ensures)
    (λ x e. kind-laws.leaf_is args.list args.text.now x.0 (tree.morph x.1)
    (c.validate_morph.ensures x.1 (λ i. (e i).1))))

pub returns-in-9 : goal.returns-in-9
unfolding validate_leaf
returns-in-9 c =
    let args = c.args in
    λ from start b. rw c.leaf-in-9.ensures
    (of_kind 9 b c.in-9.is
    (b.start_at & c.take_draw-x.ensures)
    (λ x e. kind-laws.leaf_is args.list args.text.now x.0 (tree.draw x.1)
    (c.validate_draw.ensures x.1 (λ i. (e i).1))))

pub returns-in-10 : goal.returns-in-10
unfolding validate_leaf
returns-in-10 c =
    let args = c.args in
    λ from start b. rw c.leaf-in-10.ensures
    (of_kind 10 b c.in-10.is
    (b.start_at & c.take_color-x.ensures)
    (λ x e. kind-laws.leaf_is args.list args.text.now x.0 (tree.color x.1)
    (c.validate_color.ensures x.1 (λ i. (e i).1))))

pub returns-in-11 : goal.returns-in-11
unfolding validate_leaf
returns-in-11 c =
    let args = c.args in
    λ from start b. rw c.leaf-in-11.ensures
    (of_kind 11 b c.in-11.is
    (b.start_at & c.take_waveform-x.ensures)
    (λ x e. kind-laws.leaf_is args.list args.text.now x.0 (tree.waveform x.1)
    (c.validate_waveform.ensures x.1 (λ i. (e i).1))))

pub returns-in-12 : goal.returns-in-12
unfolding validate_leaf
returns-in-12 c =
    let args = c.args in
    λ from start b. rw c.leaf-in-12.ensures
    (of_kind 12 b c.in-12.is
    (b.start_at & c.take_preset-x.ensures)
    (λ x e. kind-laws.leaf_is args.list args.text.now x.0 (tree.preset x.1)
    (c.validate_preset_call.ensures x.1 (λ i. (e i).1))))

pub returns-in-13 : goal.returns-in-13
unfolding validate_leaf
returns-in-13 c =
    let args = c.args in
    λ from start b. rw c.leaf-in-13.ensures
    (of_kind 13 b c.in-13.is
    (b.start_at & c.take_span.ensures) (λ x e. kind-laws.leaf_is args.list args.text.now x.0 (tree.label x.1) refl))

pub returns-in_default : goal.returns-in_default
unfolding validate_leaf
returns-in_default c =
    λ from start b.
    rw c.leaf-in_default.ensures
    (of_kind 14 b
    (last-kind c.args.kind c.requires.0 (omega arith) (omega arith) c.requires.1
    (omega arith) (omega arith) (omega arith) (omega arith) (omega arith) (omega arith) (omega arith))
    (b.start_at & c.take_at.ensures)
    (λ x e. kind-laws.leaf_is c.args.list c.args.text.now x.0 (tree.at x.1) refl))
