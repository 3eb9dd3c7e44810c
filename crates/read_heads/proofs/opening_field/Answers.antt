-- `read_heads::opening_field` meets its contract.
use mathlib.Core.Path.{refl}
use Rattle.text.specs.Bytes.{same}
use Rattle.text.specs.Words.{find}
use Rattle.token.specs.Names.{is_keyword}
use Rattle.words.specs.ListMeans.{list_of}
use Rattle.read_cursor.specs.Means.{no_keywords}
use Rattle.read_heads.proofs.StaggerLaws.{named-opening}
use Rattle.grammar.specs.Grammar.{opening_fields}
use Rattle.read_heads.specs.Means.{opening_of}
use Rattle.read_values.proofs.NameLaws.{unnamed}
use Rattle.error.specs.declared.Refusal.TheVariants.{UnknownKeyword}
use Rattle.read_heads.proofs.opening_field.Goals as goal

pub choice-requires : goal.choice-requires
unfolding list_of no_keywords is_keyword find same
choice-requires c = (c.requires.0, refl)

pub returns-in-Refused : goal.returns-in-Refused
unfolding opening_fields list_of
returns-in-Refused c =
    let args = c.args in
    unnamed args.text.now args.c UnknownKeyword (opening_fields (opening_of args.f)) _ _
    (rw c.in-Refused.is at c.choice.ensures)

pub returns-in-Is : goal.returns-in-Is
unfolding opening_fields list_of
returns-in-Is c =
    let args = c.args in
    named-opening
    args.text.now
    args.c
    _
    args.f
    _
    c.opening_value.result
    (rw c.in-Is.is at c.choice.ensures)
    c.opening_value.ensures
