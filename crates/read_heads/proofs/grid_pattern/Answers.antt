use Rattle.read_heads.specs.Means.{grid_inside}
use Rattle.grammar.specs.Grammar.{grid_pattern}
use Rattle.read_values.proofs.ValueLaws.{inside_any, inside_missing, inside_refused}
use Rattle.read_heads.proofs.grid_pattern.Goals as goal

pub returns-in-Missing : goal.returns-in-Missing
unfolding grid_pattern grid_inside
returns-in-Missing c =
    let args = c.args in
    inside_missing args.text.now 40 grid_inside args.c _ (rw c.in-Missing.is at c.mark.ensures)

pub returns-in-Refused : goal.returns-in-Refused
unfolding grid_pattern grid_inside
returns-in-Refused c =
    let args = c.args in
    inside_refused args.text.now 40 grid_inside args.c _ (rw c.in-Is.is at c.mark.ensures) _ _
    (rw c.in-Refused.is at c.grid_inside.ensures)

pub returns-in-Is-grid_inside : goal.returns-in-Is-grid_inside
unfolding grid_pattern grid_inside
returns-in-Is-grid_inside c =
    let args = c.args in
    let t = rw c.in-Is-grid_inside.is at c.grid_inside.ensures in (
      inside_any args.text.now 40 grid_inside args.c _ (rw c.in-Is.is at c.mark.ensures) _ _ _ t.0
          c.leave_group.ensures,
      t.1,
    )
