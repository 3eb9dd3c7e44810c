-- `read_morph::parse_morph` meets its contract.
use Rattle.read_morph.proofs.MorphLaws.{no_from, no_arrow, no_to, morph_node}
use Rattle.read_morph.proofs.parse_morph.Goals as goal

pub returns-in-Missing : goal.returns-in-Missing
returns-in-Missing c = no_from (rw c.in-Missing.is at c.string.ensures)

pub returns-in-Missing-both : goal.returns-in-Missing-both
returns-in-Missing-both c = no_arrow (rw c.in-Is.is at c.string.ensures).0 (rw c.in-Missing-both.is at c.both.ensures)

pub returns-in-Missing-string : goal.returns-in-Missing-string
returns-in-Missing-string c =
    no_to (rw c.in-Is.is at c.string.ensures).0 (rw c.in-Is-both.is at c.both.ensures)
    (rw c.in-Missing-string.is at c.string-in-Is-both.ensures)

pub returns-in-Is-string : goal.returns-in-Is-string
returns-in-Is-string c =
    morph_node (rw c.in-Is.is at c.string.ensures).0 (rw c.in-Is-both.is at c.both.ensures)
    (rw c.in-Is-string.is at c.string-in-Is-both.ensures).0 c.morph_end.ensures
