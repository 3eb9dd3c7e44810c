-- `read_draw::preset_pairs` meets its contract.
use mathlib.Core.Path.{sym, ◌∙◌}
use borrow.Author.Tests.{not-false, not-true}
use Rattle.read_draw.proofs.PresetLaws.{no_pairs, pairs-taken}
use Rattle.read_draw.proofs.preset_pairs.Goals as goal

pub returns-then-not-sees : goal.returns-then-not-sees
returns-then-not-sees c =
    rw c.no_draw_fields.ensures
    (no_pairs c.requires
    (sym (c.sees.ensures c.args.text.now c.requires) ∙ not-true c.sees.result c.if-not-sees.true-raw))

pub returns-in-Is : goal.returns-in-Is
returns-in-Is c =
    pairs-taken
    c.requires
    c.advance.ensures
    (sym (c.sees.ensures c.args.text.now c.requires) ∙ not-false c.sees.result c.if-not-sees.false-raw)
    (rw c.in-Is.is at c.draw_pairs.ensures)
    c.leave_group.ensures
