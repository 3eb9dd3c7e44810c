-- `read_heads::grid_inside` meets its contract.
use Rattle.read_heads.specs.Means.{grid_inside}
use Rattle.read_heads.proofs.HeadLaws.{no_cols, no_rows, took_grid}
use Rattle.read_heads.proofs.grid_inside.Goals as goal

pub returns-in_default : goal.returns-in_default
returns-in_default c =
    let args = c.args in
    rw c.place-place.ensures
    (no_cols args.text.now args.c _ c.in-Is.f (rw c.in-Is.is at c.grid_fields.ensures)
    c.in_default.is)

pub returns-in_default-counted_rows : goal.returns-in_default-counted_rows
returns-in_default-counted_rows c =
    let args = c.args in
    rw c.place-place.ensures
    (no_rows args.text.now args.c _ c.in-Is.f (rw c.in-Is.is at c.grid_fields.ensures) _
    c.in-Some.is
    c.in_default-counted_rows.is)

pub returns-in-Refused : goal.returns-in-Refused
unfolding grid_inside
returns-in-Refused c = let h = rw c.in-Refused.is at c.grid_fields.ensures in rw h

pub returns-in-Some-counted_rows : goal.returns-in-Some-counted_rows
returns-in-Some-counted_rows c =
    let args = c.args in (
      took_grid args.text.now args.c _ c.in-Is.f (rw c.in-Is.is at c.grid_fields.ensures)
          _ _ _ c.in-Some.is
          c.in-Some-counted_rows.is c.case_or-origin.ensures,
      tt,
    )
