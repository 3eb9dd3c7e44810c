-- `read_waveform::waveform_end` meets its contract.
use mathlib.Core.List.{[]}
use Rattle.grammar.specs.Fields.{parse_field_list}
use Rattle.grammar.specs.Grammar.{waveform_fields}
use Rattle.read_waveform.specs.Means.{waveform_leaf}
use Rattle.read_node.proofs.EndLaws.{free_went}
use Rattle.read_waveform.proofs.waveform_end.Goals as goal

pub returns-in-Is : goal.returns-in-Is
returns-in-Is c =
    let args = c.args in
    let h = rw c.in-Is.is at c.waveform_fields.ensures in
    let phase = h.say.1.1 in
    let seed = phase.1.1 in
    free_went (parse_field_list waveform_fields [])
    (waveform_leaf args.kind)
    h _
    (rw (h.say.0.0, h.say.1.0.0, phase.0.0, phase.1.0.0, seed.0, seed.1.0.0, seed.1.1.0.0))
    c.put_waveform.ensures
