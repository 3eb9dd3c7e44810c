use Rattle.read_heads.specs.Means.{GridHeld}
use Rattle.grammar.specs.Fields.{a_number}
use native.Mathlib.Omega.{arith}
use Rattle.read_heads.proofs.RowLaws.{refused_row, took_row}
use Rattle.read_heads.proofs.HeadLaws.{grid_cols, grid_origin, grid_rows, no_origin, took_origin}
use Rattle.grammar.specs.Grammar.{grid_fields}
use Rattle.read_values.proofs.RowLaws.{no_count, took_count}
use Rattle.read_heads.proofs.grid_field.Goals as goal

pub returns-in-Refused : goal.returns-in-Refused
unfolding grid_fields
returns-in-Refused c =
    let args = c.args in
    refused_row grid_fields args.text.now args.c args.i _ _ (
      λ z. absurd (omega arith),
      (
        λ z. absurd (omega arith),
        (
          λ z. no_origin args.text.now args.c _ _
              (rw c.in-Refused.is at c.parse_grid_origin.ensures),
          tt,
        ),
      ),
    )

pub returns-in-Is : goal.returns-in-Is
unfolding grid_fields
returns-in-Is c =
    let args = c.args in
    let t = rw c.in-Is.is at c.parse_grid_origin.ensures in
    took_row grid_fields args.text.now args.c args.i GridHeld _ args.f _ (
      λ z. absurd (omega arith),
      (
        λ z. absurd (omega arith),
        (λ z. (a_number c.in-Is.k, took_origin args.text.now args.c _ _ t.0, grid_origin args.f _), tt),
      ),
    )

pub returns-then-i-eq0 : goal.returns-then-i-eq0
unfolding grid_fields
returns-then-i-eq0 c =
    let args = c.args in
    let t = rw c.in-Is-parse_uint.is at c.parse_uint.ensures in
    took_row grid_fields args.text.now args.c args.i GridHeld _ args.f _ (
      λ z. (a_number c.in-Is-parse_uint.n, took_count args.text.now args.c _ _ t, grid_cols args.f _),
      (λ z. absurd (omega arith), (λ z. absurd (omega arith), tt)),
    )

pub returns-in-Refused-parse_uint : goal.returns-in-Refused-parse_uint
unfolding grid_fields
returns-in-Refused-parse_uint c =
    let args = c.args in
    let h = no_count args.text.now args.c _ _ (rw c.in-Refused-parse_uint.is at c.parse_uint.ensures) in
    refused_row grid_fields args.text.now args.c args.i _ _ (λ z. h, (λ z. h, (λ z. absurd (c.if-i-eq2.false z), tt)))

pub returns-else-i-eq0 : goal.returns-else-i-eq0
unfolding grid_fields
returns-else-i-eq0 c =
    let args = c.args in
    let t = rw c.in-Is-parse_uint.is at c.parse_uint.ensures in
    took_row grid_fields args.text.now args.c args.i GridHeld _ args.f _ (
      λ z. absurd (c.if-i-eq0.false z),
      (
        λ z. (a_number c.in-Is-parse_uint.n, took_count args.text.now args.c _ _ t, grid_rows args.f _),
        (λ z. absurd (c.if-i-eq2.false z), tt),
      ),
    )
