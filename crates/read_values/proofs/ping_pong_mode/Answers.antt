-- `read_values::ping_pong_mode` meets its contract.
use native.Mathlib.Omega.{arith}
use Rattle.grammar.specs.Values.{ping_pong_mode}
use Rattle.read_cursor.proofs.CursorLaws.{stays}
use mathlib.Core.Path.{sym, ◌∙◌}
use Rattle.read_values.proofs.ping_pong_mode.Goals as goal

pub returns-then-not-sees : goal.returns-then-not-sees
unfolding ping_pong_mode
returns-then-not-sees c =
    stays c.args.text.now c.args.c c.requires _ _
    (rw (sym (c.sees.ensures c.args.text.now c.requires) ∙ c.if-not-sees.true))

pub returns-in-Refused : goal.returns-in-Refused
unfolding ping_pong_mode
returns-in-Refused c =
    let h = rw c.in-Refused.is at c.uint_in_parens.ensures in
    rw (sym (c.sees.ensures c.args.text.now c.requires) ∙ c.if-not-sees.false, h)

pub returns-in-Is : goal.returns-in-Is
unfolding ping_pong_mode
returns-in-Is c =
    let t = rw c.in-Is.is at c.uint_in_parens.ensures in
    record {
      is = rw (sym (c.sees.ensures c.args.text.now c.requires) ∙ c.if-not-sees.false, t.is);
      low = omega (arith, t.low);
      ready = t.ready;
    }
