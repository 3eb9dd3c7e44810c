-- `read_draw::preset_end` meets its contract.
use Rattle.sheet_encode.specs.Means.{span_of}
use Rattle.read_draw.specs.Means.{preset_leaf, preset_fields}
use Rattle.read_node.proofs.EndLaws.{free_went}
use Rattle.read_draw.proofs.preset_end.Goals as goal

pub returns-in-Is : goal.returns-in-Is
returns-in-Is c =
    let args = c.args in
    let h = rw c.in-Is.is at c.preset_fields.ensures in
    free_went preset_fields (preset_leaf (span_of args.name)) h _ (rw (h.say.0.0, h.say.1.0.0))
    c.put_preset.ensures
