-- `read_morph::morph_end` meets its contract.
use Rattle.sheet_encode.specs.Means.{span_of}
use Rattle.grammar.specs.Grammar.{morph_fields}
use Rattle.read_morph.specs.Means.{morph_leaf}
use Rattle.read_node.proofs.EndLaws.{end_went}
use Rattle.read_morph.proofs.morph_end.Goals as goal

pub returns-in-Some : goal.returns-in-Some
returns-in-Some c =
    let args = c.args in
    let h = rw c.in-Is.is at c.morph_fields.ensures in
    end_went morph_fields
    (morph_leaf (span_of args.from) (span_of args.to))
    h
    h.say.1.0.0
    c.in-Some.is
    _
    (rw (c.word_or-samples.ensures, h.say.0, h.say.1.1.0.0))
    c.put_morph.ensures
