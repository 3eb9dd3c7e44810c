-- `read_draw::draw_end` meets its contract.
use mathlib.Core.List.{[]}
use mathlib.Core.Path.{refl}
use Rattle.sheet_encode.specs.Means.{span_of}
use Rattle.grammar.specs.Fields.{last, parse_field_list}
use Rattle.grammar.specs.Grammar.{draw_fields}
use Rattle.read_draw.specs.Means.{DrawListMeans}
use Rattle.read_draw.specs.Means.{draw_leaf}
use Rattle.read_node.proofs.EndLaws.{end_refused, end_untimed, end_went}
use Rattle.read_draw.proofs.draw_end.Goals.{After-draw_fields}
use Rattle.read_draw.proofs.draw_end.Goals as goal

-- the fields at c, with none before them
listed : (w : After-draw_fields) →
    let args = w.args in
    DrawListMeans args.text.now args.c (parse_field_list draw_fields []) w.draw_fields.result
unfolding last
listed w = w.draw_fields.ensures [] (rw w.no_draw_fields.ensures ((refl, tt), ((refl, tt), tt)))

pub returns-in_default : goal.returns-in_default
returns-in_default c =
    let args = c.args in
    let h = rw c.in-Is.is
    at (listed (goal.at.returns-in_default c).After-draw_fields)
    in
    rw c.place.ensures
    (end_untimed draw_fields (draw_leaf (span_of args.svg)) h h.say.0.0 c.in_default.is)

pub put_draw-requires : goal.put_draw-requires
put_draw-requires c =
    let h = rw c.in-Is.is
    at (listed (goal.at.put_draw-requires c).After-draw_fields)
    in
    (c.requires.1.low, (rw c.in-Some.is at h.say.0.1, h.say.1.0.1))

pub returns-in-Refused : goal.returns-in-Refused
returns-in-Refused c =
    let args = c.args in
    end_refused draw_fields (draw_leaf (span_of args.svg))
    (rw c.in-Refused.is
    at (listed (goal.at.returns-in-Refused c).After-draw_fields))

pub returns-in-Some : goal.returns-in-Some
returns-in-Some c =
    let args = c.args in
    let h = rw c.in-Is.is
    at (listed (goal.at.returns-in-Some c).After-draw_fields)
    in
    end_went draw_fields
    (draw_leaf (span_of args.svg))
    h
    h.say.0.0
    c.in-Some.is
    _
    (rw h.say.1.0.0)
    c.put_draw.ensures
