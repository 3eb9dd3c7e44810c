-- `parser::parse_input` meets its contract.
use mathlib.Core.Path.{sym}
use Rattle.parser.proofs.ReadLaws.{input_done, input_left, input_refused}
use Rattle.parser.proofs.parse_input.Goals as goal

pub returns-in-Refused : goal.returns-in-Refused
returns-in-Refused c =
    let g = rw c.in-Refused.is at c.parse_nodes.ensures in
    input_refused c.args.text.now c.first-c.result c.first-c.ensures _ _ _ c.refused.ensures g

pub returns-in-At : goal.returns-in-At
returns-in-At c =
    let g = rw c.in-Is.is at c.parse_nodes.ensures in
    let l = rw c.in-At.is at c.leftover.ensures in
    input_left c.args.text.now c.first-c.result c.first-c.ensures g _ _ c.refused-in-At.ensures (sym l)

pub returns-in-Nothing : goal.returns-in-Nothing
returns-in-Nothing c =
    let g = rw c.in-Is.is at c.parse_nodes.ensures in
    let l = rw c.in-Nothing.is at c.leftover.ensures in
    input_done c.args.text.now c.first-c.result c.first-c.ensures g _ _ (sym l)
    c.patch_count.ensures c.place.ensures c.rounded.ensures
