-- `read_tween::tween_fields` meets its contract.
use Rattle.words.specs.ListMeans.{list_of}
use Rattle.read_node.proofs.StepLaws.{gathering_start, list_refused, list_done, value_refused, list-more, list_moves}
use mathlib.Core.Path.{refl}
use Rattle.grammar.specs.Fields.{last, ever}
use Rattle.grammar.specs.Grammar.{tween_fields}
use native.Mathlib.Omega.{arith}
use Rattle.read_tween.proofs.tween_fields.Goals as goal

pub loop-r-init : goal.loop-r-init
unfolding last ever
loop-r-init c = gathering_start c.requires ((refl, tt), ((refl, tt), ((refl, tt), ((refl, tt), (refl, ((refl, tt), (refl, (refl, tt))))))))

pub returns-in-Refused : goal.returns-in-Refused
unfolding tween_fields list_of
returns-in-Refused c = list_refused c.loop-r.invariant (rw c.in-Refused.is at (c.parse_field_list.ensures tween_fields refl))

pub returns-in-Done : goal.returns-in-Done
unfolding tween_fields list_of
returns-in-Done c = list_done c.loop-r.invariant (rw c.in-Done.is at (c.parse_field_list.ensures tween_fields refl))

pub tween_step-requires : goal.tween_step-requires
unfolding tween_fields list_of
tween_step-requires c = (rw c.in-Field.is at (c.parse_field_list.ensures tween_fields refl)).ready

pub returns-in-Refused-tween_step : goal.returns-in-Refused-tween_step
unfolding tween_fields list_of
returns-in-Refused-tween_step c =
    value_refused c.loop-r.invariant (rw c.in-Field.is at (c.parse_field_list.ensures tween_fields refl))
    (rw c.in-Refused-tween_step.is at c.tween_step.ensures)

pub loop-r-smaller : goal.loop-r-smaller
unfolding tween_fields list_of
loop-r-smaller c =
    let f = rw c.in-Field.is at (c.parse_field_list.ensures tween_fields refl) in
    let u = rw c.in-Is.is at c.tween_step.ensures in
    let w = list_moves f u in
    omega (arith, w.0.high, w.1)

pub loop-r-preserved : goal.loop-r-preserved
unfolding tween_fields list_of
loop-r-preserved c =
    list-more c.loop-r.invariant (rw c.in-Field.is at (c.parse_field_list.ensures tween_fields refl))
    (rw c.in-Is.is at c.tween_step.ensures)
