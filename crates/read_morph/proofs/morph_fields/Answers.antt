-- `read_morph::morph_fields` meets its contract.
use Rattle.words.specs.ListMeans.{list_of}
use Rattle.read_node.proofs.StepLaws.{gathering_start, list_refused, list_done, value_refused, list-more, list_moves}
use mathlib.Core.Path.{refl}
use Rattle.grammar.specs.Fields.{last, ever}
use Rattle.grammar.specs.Grammar.{morph_fields}
use native.Mathlib.Omega.{arith}
use Rattle.read_morph.proofs.morph_fields.Goals as goal

pub loop-r-init : goal.loop-r-init
unfolding last ever
loop-r-init c = gathering_start c.requires (refl, ((refl, tt), ((refl, tt), tt)))

pub returns-in-Refused : goal.returns-in-Refused
unfolding morph_fields list_of
returns-in-Refused c = list_refused c.loop-r.invariant (rw c.in-Refused.is at (c.parse_field_list.ensures morph_fields refl))

pub returns-in-Done : goal.returns-in-Done
unfolding morph_fields list_of
returns-in-Done c = list_done c.loop-r.invariant (rw c.in-Done.is at (c.parse_field_list.ensures morph_fields refl))

pub morph_step-requires : goal.morph_step-requires
unfolding morph_fields list_of
morph_step-requires c = (rw c.in-Field.is at (c.parse_field_list.ensures morph_fields refl)).ready

pub returns-in-Refused-morph_step : goal.returns-in-Refused-morph_step
unfolding morph_fields list_of
returns-in-Refused-morph_step c =
    value_refused c.loop-r.invariant (rw c.in-Field.is at (c.parse_field_list.ensures morph_fields refl))
    (rw c.in-Refused-morph_step.is at c.morph_step.ensures)

pub loop-r-smaller : goal.loop-r-smaller
unfolding morph_fields list_of
loop-r-smaller c =
    let f = rw c.in-Field.is at (c.parse_field_list.ensures morph_fields refl) in
    let u = rw c.in-Is.is at c.morph_step.ensures in
    let w = list_moves f u in
    omega (arith, w.0.high, w.1)

pub loop-r-preserved : goal.loop-r-preserved
unfolding morph_fields list_of
loop-r-preserved c =
    list-more c.loop-r.invariant (rw c.in-Field.is at (c.parse_field_list.ensures morph_fields refl))
    (rw c.in-Is.is at c.morph_step.ensures)
