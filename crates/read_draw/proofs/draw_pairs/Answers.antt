-- `read_draw::draw_pairs` meets its contract.
use Rattle.text.specs.Bytes.{same}
use Rattle.text.specs.Words.{find}
use Rattle.token.specs.Names.{is_keyword}
use Rattle.read_cursor.specs.Means.{no_keywords}
use Rattle.words.specs.ListMeans.{list_of}
use Rattle.read_node.proofs.StepLaws.{gathering_start, pairs_refused, pairs_done}
use Rattle.read_node.proofs.StepLaws.{pairs-value_refused, pairs-more, pairs-last, pairs_moves}
use mathlib.Core.Path.{refl}
use native.Mathlib.Omega.{arith}
use borrow.Author.Tests.{not-false, not-true}
use Rattle.grammar.specs.Fields.{last}
use Rattle.grammar.specs.Grammar.{draw_fields}
use Rattle.read_draw.proofs.draw_pairs.Goals as goal

pub loop-r-init : goal.loop-r-init
unfolding last
loop-r-init c = rw c.no_draw_fields-kept.ensures (gathering_start c.requires ((refl, tt), ((refl, tt), tt)))

pub next_pair-requires : goal.next_pair-requires
unfolding list_of no_keywords is_keyword find same
next_pair-requires c = (c.loop-r.invariant.listed.ready, refl)

pub returns-in-Refused : goal.returns-in-Refused
unfolding draw_fields list_of
returns-in-Refused c = pairs_refused c.loop-r.invariant (rw c.in-Refused.is at (c.next_pair.ensures draw_fields refl))

pub returns-in-Done : goal.returns-in-Done
unfolding draw_fields list_of
returns-in-Done c = pairs_done c.loop-r.invariant (rw c.in-Done.is at (c.next_pair.ensures draw_fields refl))

pub draw_step-requires : goal.draw_step-requires
unfolding draw_fields list_of
draw_step-requires c = (rw c.in-Field.is at (c.next_pair.ensures draw_fields refl)).ready

pub returns-in-Refused-draw_step : goal.returns-in-Refused-draw_step
unfolding draw_fields list_of
returns-in-Refused-draw_step c =
    pairs-value_refused c.loop-r.invariant (rw c.in-Field.is at (c.next_pair.ensures draw_fields refl))
    (rw c.in-Refused-draw_step.is at c.draw_step.ensures)

pub eat-ate-requires : goal.eat-ate-requires
unfolding draw_fields list_of
eat-ate-requires c =
    let f = rw c.in-Field.is at (c.next_pair.ensures draw_fields refl) in
    let u = rw c.in-Is.is at c.draw_step.ensures in
    ((u.by f.row f.is).1.ready, omega arith)

pub returns-then-not-ate : goal.returns-then-not-ate
unfolding draw_fields list_of
returns-then-not-ate c =
    let z = rw (not-true c.eat-ate.result.taken c.if-not-ate.true) at c.eat-ate.ensures in
    pairs-last c.loop-r.invariant (rw c.in-Field.is at (c.next_pair.ensures draw_fields refl))
    (rw c.in-Is.is at c.draw_step.ensures) z

pub loop-r-smaller : goal.loop-r-smaller
unfolding draw_fields list_of
loop-r-smaller c =
    let f = rw c.in-Field.is at (c.next_pair.ensures draw_fields refl) in
    let u = rw c.in-Is.is at c.draw_step.ensures in
    let w = pairs_moves f u c.eat-ate.ensures in
    omega (arith, w.0.high, w.1)

pub loop-r-preserved : goal.loop-r-preserved
unfolding draw_fields list_of
loop-r-preserved c =
    let z = rw (not-false c.eat-ate.result.taken c.if-not-ate.false) at c.eat-ate.ensures in
    pairs-more c.loop-r.invariant (rw c.in-Field.is at (c.next_pair.ensures draw_fields refl))
    (rw c.in-Is.is at c.draw_step.ensures) z
