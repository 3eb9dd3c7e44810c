-- `presets::is_hex_color` meets its contract: each way out is one law of colours.
use mathlib.Core.Path.{sym, ◌∙◌}
use Rattle.presets.proofs.ColorLaws.{hex_digits, hex_no}
use Rattle.presets.proofs.is_hex_color.Goals as goal

pub returns-then-is_hex_size : goal.returns-then-is_hex_size
returns-then-is_hex_size c =
    hex_digits c.args.digits.now c.run_end.result (sym c.is_hex_size.ensures ∙ c.if-is_hex_size.true)
    c.run_end.ensures

pub returns-else-is_hex_size : goal.returns-else-is_hex_size
returns-else-is_hex_size c =
    c.if-is_hex_size.false ∙ hex_no c.args.digits.now (sym c.is_hex_size.ensures ∙ c.if-is_hex_size.false)
