-- `read_values::parse_loop_mode` meets its contract.
use Rattle.grammar.specs.Values.{loop_modes, parse_loop_mode}
use Rattle.words.specs.ListMeans.{list_of}
use Rattle.words.proofs.KeyLaws.{place_some, place_none}
use Rattle.read_values.proofs.NameLaws.{under_row, under_none}
use Rattle.read_values.proofs.EasingLaws.{mode_found}
use Rattle.read_values.proofs.parse_loop_mode.Goals as goal

pub returns-in-None : goal.returns-in-None
unfolding parse_loop_mode loop_modes list_of
returns-in-None c =
    let w = rw c.in-Is.is at c.word.ensures in
    let u = under_none loop_modes 0 _ (place_none c.find.ensures c.in-None.is) in
    rw (w.0.is, u, w.0.ready.head.place, c.place.ensures)

pub returns-in-Missing : goal.returns-in-Missing
unfolding parse_loop_mode
returns-in-Missing c = let h = rw c.in-Missing.is at c.word.ensures in rw h

pub returns-in-Some : goal.returns-in-Some
unfolding loop_modes list_of
returns-in-Some c =
    let args = c.args in
    let w = rw c.in-Is.is at c.word.ensures in
    let u = under_row loop_modes _ _ (place_some _ c.find.ensures c.in-Some.is) in
    mode_found args.text.now args.c _ _ _ u.row.1 c.mode.result w.0 u.under (c.mode.ensures u.row u.is)
