-- `read_heads::parse_stagger_pattern` meets its contract.
use mathlib.Core.Path.{refl}
use Rattle.text.specs.Bytes.{same}
use Rattle.text.specs.Words.{find}
use Rattle.token.specs.Names.{is_keyword}
use Rattle.words.specs.ListMeans.{list_of}
use Rattle.read_cursor.specs.Means.{no_keywords}
use Rattle.read_heads.proofs.HeadLaws.{named-pattern}
use Rattle.grammar.specs.Grammar.{parse_stagger_pattern, patterns}
use Rattle.read_values.proofs.NameLaws.{unnamed}
use Rattle.error.specs.declared.Refusal.TheVariants.{Malformed}
use Rattle.read_heads.proofs.parse_stagger_pattern.Goals as goal

pub choice-requires : goal.choice-requires
unfolding list_of no_keywords is_keyword find same
choice-requires c = (c.requires, refl)

pub returns-in-Refused : goal.returns-in-Refused
unfolding parse_stagger_pattern patterns list_of
returns-in-Refused c =
    let args = c.args in
    unnamed args.text.now args.c Malformed patterns _ _ (rw c.in-Refused.is at c.choice.ensures)

pub returns-in-Is : goal.returns-in-Is
unfolding patterns list_of
returns-in-Is c =
    let args = c.args in
    named-pattern args.text.now args.c _ _ c.named_pattern.result (rw c.in-Is.is at c.choice.ensures)
    c.named_pattern.ensures
