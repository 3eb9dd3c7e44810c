-- `read_values::mode` meets its contract.
use native.Mathlib.Omega.{arith}
use Rattle.read_values.proofs.RowLaws.{elem_at, elem_lt}
use Rattle.grammar.specs.Values.{loop_modes}
use Rattle.read_values.proofs.EasingLaws.{mode_some}
use mathlib.Core.Path.{refl}
use Rattle.read_cursor.proofs.CursorLaws.{stays}
use Rattle.read_values.proofs.mode.Goals as goal

pub returns-in-0 : goal.returns-in-0
unfolding loop_modes
returns-in-0 c row e = rw (← elem_at loop_modes _ 0 row _ c.in-0.is refl e) (stays c.args.text.now c.args.c c.requires _ _ refl)

pub returns-in-1 : goal.returns-in-1
unfolding loop_modes
returns-in-1 c row e = rw (← elem_at loop_modes _ 1 row _ c.in-1.is refl e) (stays c.args.text.now c.args.c c.requires _ _ refl)

pub returns-in-2 : goal.returns-in-2
unfolding loop_modes
returns-in-2 c row e = rw (← elem_at loop_modes _ 2 row _ c.in-2.is refl e) c.ping_pong_mode.ensures

pub returns-in_default : goal.returns-in_default
unfolding loop_modes
returns-in_default c row e =
    let args = c.args in
    let h = elem_lt loop_modes args.i row e in
    rw (← elem_at loop_modes args.i 3 row _ (omega arith) refl e)
    (mode_some args.text.now args.c _ c.times_mode.result c.times_mode.ensures)
