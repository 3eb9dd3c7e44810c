-- `read_heads::parse_grid_origin` meets its contract.
use mathlib.Core.Path.{refl}
use Rattle.text.specs.Bytes.{same}
use Rattle.text.specs.Words.{find}
use Rattle.token.specs.Names.{is_keyword}
use Rattle.words.specs.ListMeans.{list_of}
use Rattle.read_cursor.specs.Means.{no_keywords}
use native.Mathlib.Omega.{arith}
use Rattle.read_values.proofs.NameLaws.{choice-below}
use Rattle.grammar.specs.Grammar.{parse_grid_origin}
use Rattle.error.specs.declared.Refusal.TheVariants.{Malformed}
use Rattle.read_heads.proofs.parse_grid_origin.Goals as goal

pub choice-requires : goal.choice-requires
unfolding list_of no_keywords is_keyword find same
choice-requires c = (c.requires, refl)

pub overflow_cast-result : goal.overflow_cast-result
unfolding list_of
overflow_cast-result c =
    let args = c.args in
    let b = choice-below args.text.now args.c _ Malformed _ _ (rw c.in-Is.is at c.choice.ensures) in
    omega arith

pub returns-in-Refused : goal.returns-in-Refused
unfolding parse_grid_origin list_of
returns-in-Refused c = rw c.in-Refused.is at c.choice.ensures

pub returns-in-Is : goal.returns-in-Is
unfolding parse_grid_origin list_of
returns-in-Is c =
    let args = c.args in
    let t = rw c.in-Is.is at c.choice.ensures in
    (t, choice-below args.text.now args.c _ Malformed _ _ t)
