-- `read_draw::draw_fields` meets its contract.
use Rattle.words.specs.ListMeans.{list_of}
use Rattle.read_node.proofs.StepLaws.{list_refused, list_done, value_refused, list-more, list_moves}
use mathlib.Core.Path.{refl}
use native.Mathlib.Omega.{arith}
use Rattle.grammar.specs.Grammar.{draw_fields}
use Rattle.read_draw.proofs.draw_fields.Goals as goal

pub returns-in-Refused : goal.returns-in-Refused
unfolding draw_fields list_of
returns-in-Refused c =
    λ fs h. list_refused (c.loop-r.invariant.1 fs h)
    (rw c.in-Refused.is at (c.parse_field_list.ensures draw_fields refl))

pub returns-in-Done : goal.returns-in-Done
unfolding draw_fields list_of
returns-in-Done c =
    λ fs h. list_done (c.loop-r.invariant.1 fs h)
    (rw c.in-Done.is at (c.parse_field_list.ensures draw_fields refl))

pub draw_step-requires : goal.draw_step-requires
unfolding draw_fields list_of
draw_step-requires c = (rw c.in-Field.is at (c.parse_field_list.ensures draw_fields refl)).ready

pub returns-in-Refused-draw_step : goal.returns-in-Refused-draw_step
unfolding draw_fields list_of
returns-in-Refused-draw_step c =
    λ fs h. value_refused (c.loop-r.invariant.1 fs h)
    (rw c.in-Field.is at (c.parse_field_list.ensures draw_fields refl))
    (rw c.in-Refused-draw_step.is at c.draw_step.ensures)

pub loop-r-smaller : goal.loop-r-smaller
unfolding draw_fields list_of
loop-r-smaller c =
    let f = rw c.in-Field.is at (c.parse_field_list.ensures draw_fields refl) in
    let u = rw c.in-Is.is at c.draw_step.ensures in
    let w = list_moves f u in
    omega (arith, w.0.high, w.1)

pub loop-r-preserved : goal.loop-r-preserved
unfolding draw_fields list_of
loop-r-preserved c =
    let f = rw c.in-Field.is at (c.parse_field_list.ensures draw_fields refl) in
    let u = rw c.in-Is.is at c.draw_step.ensures in
    ((list_moves f u).0, λ fs h. list-more (c.loop-r.invariant.1 fs h) f u)
