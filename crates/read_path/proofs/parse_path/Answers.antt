-- `read_path::parse_path` meets its contract.
use mathlib.Core.Path.{refl}
use Rattle.text.specs.Bytes.{same}
use Rattle.text.specs.Words.{find}
use Rattle.token.specs.Names.{is_keyword}
use Rattle.words.specs.ListMeans.{list_of}
use Rattle.read_cursor.specs.Means.{no_keywords}
use Rattle.read_path.proofs.PathLaws.{no_target, not_along, no_svg, path_node}
use Rattle.read_path.proofs.parse_path.Goals as goal

pub choice-requires : goal.choice-requires
unfolding list_of no_keywords is_keyword find same
choice-requires c = ((rw c.in-Is.is at c.word.ensures).0.ready, refl)

pub returns-in-Missing : goal.returns-in-Missing
returns-in-Missing c = no_target (rw c.in-Missing.is at c.word.ensures)

pub returns-in-Refused : goal.returns-in-Refused
unfolding list_of
returns-in-Refused c =
    not_along c.in-Is.target (rw c.in-Is.is at c.word.ensures).0
    (rw c.in-Refused.is at c.choice.ensures)

pub returns-in-Missing-string : goal.returns-in-Missing-string
unfolding list_of
returns-in-Missing-string c =
    no_svg c.in-Is.target (rw c.in-Is.is at c.word.ensures).0
    (rw c.in-Is-choice.is at c.choice.ensures) (rw c.in-Missing-string.is at c.string.ensures)

pub returns-in-Is-string : goal.returns-in-Is-string
unfolding list_of
returns-in-Is-string c =
    let w = rw c.in-Is.is at c.word.ensures in
    path_node c.in-Is.target w.0 (rw c.in-Is-choice.is at c.choice.ensures) w.1
    (rw c.in-Is-string.is at c.string.ensures).0 c.path_end.ensures
