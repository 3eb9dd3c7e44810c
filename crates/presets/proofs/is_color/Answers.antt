-- `presets::is_color` meets its contract: each way out is one law of colours; of a name the first 24 bytes decide.
use mathlib.Core.Path.{◌∙◌}
use Rattle.text.proofs.WriteLaws.{puts_front}
use Rattle.presets.proofs.ColorLaws.{color_hex, color_name}
use Rattle.presets.proofs.is_color.Goals as goal

pub returns-then-byte_at-eq35 : goal.returns-then-byte_at-eq35
returns-then-byte_at-eq35 c =
    c.is_hex_color.ensures
    ∙ color_hex _ c.args.s.now c.byte_at.result c.byte_at.ensures _ c.if-byte_at-eq35.true
    c.part.ensures

pub returns : goal.returns
returns c =
    c.holds.ensures
    ∙ color_name _ c.args.s.now c.byte_at.result c.byte_at.ensures _ c.if-byte_at-eq35.false
    (puts_front c.lower_into-n.ensures)
