-- `read_draw::parse_preset_call` meets its contract.
use Rattle.read_draw.proofs.PresetLaws.{no_preset, preset_node}
use Rattle.read_draw.proofs.parse_preset_call.Goals as goal

pub returns-in-Missing : goal.returns-in-Missing
returns-in-Missing c = no_preset (rw c.in-Missing.is at c.word.ensures)

pub returns-in-Is : goal.returns-in-Is
returns-in-Is c =
    let w = rw c.in-Is.is at c.word.ensures in
    preset_node c.in-Is.name w.0 w.1 c.preset_end.ensures
