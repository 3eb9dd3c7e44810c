-- `colors::color_bytes` meets its contract: each way out is one law of colours.
use mathlib.Core.Path.{◌∙◌}
use Rattle.colors.proofs.ColorLaws.{bytes-hex, bytes_name}
use Rattle.colors.proofs.color_bytes.Goals as goal

pub returns-then-byte_at-eq35 : goal.returns-then-byte_at-eq35
returns-then-byte_at-eq35 c =
    c.hex_color.ensures
    ∙ bytes-hex c.args.s.now c.byte_at.result c.byte_at.ensures _ c.if-byte_at-eq35.true
    c.part.ensures

pub returns : goal.returns
returns c =
    c.named_color.ensures
    ∙ bytes_name c.args.s.now c.byte_at.result c.byte_at.ensures c.if-byte_at-eq35.false
