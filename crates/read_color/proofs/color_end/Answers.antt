-- `read_color::color_end` meets its contract.
use Rattle.sheet_encode.specs.Means.{span_of}
use Rattle.grammar.specs.Grammar.{color_fields}
use Rattle.read_color.specs.Means.{color_leaf}
use Rattle.read_node.proofs.EndLaws.{end_went}
use Rattle.read_color.proofs.color_end.Goals as goal

pub returns-in-Some : goal.returns-in-Some
returns-in-Some c =
    let args = c.args in
    let h = rw c.in-Is.is at c.color_fields.ensures in
    end_went color_fields
    (color_leaf (span_of args.target) (span_of args.from) (span_of args.to))
    h
    h.say.0.0
    c.in-Some.is
    _
    (rw (c.case_or-space.ensures, h.say.1.0, h.say.1.1.0.0))
    c.put_color.ensures
