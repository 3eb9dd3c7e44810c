-- `read_blocks::begin_word` meets its contract.
use Rattle.text.specs.Bytes.{at}
use native.Mathlib.Omega.{arith}
use Rattle.read_blocks.proofs.BeginLaws.{leaf_low, container_low, leaf_begun}
use Rattle.read_blocks.proofs.begin_word.Goals as goal

pub leaf_kind-requires : goal.leaf_kind-requires
leaf_kind-requires c =
    let pre = c.requires in
    leaf_low _ _ (rw c.in-Leaf.is at (c.keyword_of.ensures pre.2.0 pre.2.1))

pub overflow_add-i : goal.overflow_add-i
overflow_add-i c =
    let pre = c.requires in
    omega (arith, container_low _ _ (rw c.in-Container.is at (c.keyword_of.ensures pre.2.0 pre.2.1)))

pub overflow_cast-i : goal.overflow_cast-i
overflow_cast-i c =
    let pre = c.requires in
    omega (arith, container_low _ _ (rw c.in-Container.is at (c.keyword_of.ensures pre.2.0 pre.2.1)))

pub returns-in-Is : goal.returns-in-Is
returns-in-Is c w e =
    let args = c.args in
    leaf_begun
    args.text.now
    args.sheet.now
    _
    args.c
    args.out
    _ _ w _
    (rw c.in-Leaf.is at (c.keyword_of.ensures w e))
    c.parse_leaf.new.sheet
    _ _
    (rw c.leaf_kind.ensures at c.put_front-at.ensures)
    (rw c.in-Is.is at c.parse_leaf.ensures)
