-- `read_path::path_end` meets its contract.
use Rattle.sheet_encode.specs.Means.{span_of}
use Rattle.grammar.specs.Grammar.{path_fields}
use Rattle.read_path.specs.Means.{path_leaf}
use Rattle.read_node.proofs.EndLaws.{end_went}
use Rattle.read_path.proofs.path_end.Goals as goal

pub returns-in-Some : goal.returns-in-Some
returns-in-Some c =
    let args = c.args in
    let h = rw c.in-Is.is at c.path_fields.ensures in
    end_went path_fields
    (path_leaf (span_of args.target) (span_of args.svg))
    h
    h.say.0.0
    c.in-Some.is
    _
    (rw (h.say.1.0.0, h.say.1.1.0, h.say.1.1.1.0.0, h.say.1.1.1.1.0))
    c.put_path.ensures
