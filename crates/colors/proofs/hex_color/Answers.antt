-- `colors::hex_color` meets its contract: each way out is one law of what stands behind a `#`.
use mathlib.Core.Path.{sym, ◌∙◌}
use Rattle.colors.proofs.HexLaws.{hex_color_lem, no_hex_color}
use Rattle.colors.proofs.hex_color.Goals as goal

pub returns-then-not-is_hex_color : goal.returns-then-not-is_hex_color
returns-then-not-is_hex_color c = no_hex_color _ (sym c.is_hex_color.ensures ∙ c.if-not-is_hex_color.true)

pub returns : goal.returns
returns c =
    (rw (c.written.ensures, c.written-2.ensures, c.written-3.ensures, c.written-4.ensures))
    ∙ hex_color_lem _ (sym c.is_hex_color.ensures ∙ c.if-not-is_hex_color.false)
