use Rattle.read_heads.specs.Means.{RandomHeld}
use Rattle.grammar.specs.Fields.{a_number}
use Rattle.number.specs.Number.{bits}
use native.Mathlib.Omega.{arith}
use Rattle.read_heads.proofs.RowLaws.{refused_row, took_row}
use Rattle.read_values.proofs.RowLaws.{no_count, no_number, took_count, took_number}
use Rattle.read_heads.proofs.HeadLaws.{random_max, random_min, random_seed}
use Rattle.grammar.specs.Grammar.{random_fields}
use Rattle.read_heads.proofs.random_field.Goals as goal

pub returns-in-Refused : goal.returns-in-Refused
unfolding random_fields
returns-in-Refused c =
    let args = c.args in
    refused_row random_fields args.text.now args.c args.i _ _ (
      λ z. no_count args.text.now args.c _ _ (rw c.in-Refused.is at c.parse_uint.ensures),
      (λ z. absurd (omega arith), (λ z. absurd (omega arith), tt)),
    )

pub returns-in-Is : goal.returns-in-Is
unfolding random_fields
returns-in-Is c =
    let args = c.args in
    let t = rw c.in-Is.is at c.parse_uint.ensures in
    took_row random_fields args.text.now args.c args.i RandomHeld _ args.f _ (
      λ z. (a_number c.in-Is.n, took_count args.text.now args.c _ _ t, random_seed args.f _),
      (λ z. absurd (omega arith), (λ z. absurd (omega arith), tt)),
    )

pub returns-then-i-eq1 : goal.returns-then-i-eq1
unfolding random_fields
returns-then-i-eq1 c =
    let args = c.args in
    let t = rw c.in-Is-parse_float.is at c.parse_float.ensures in
    took_row random_fields args.text.now args.c args.i RandomHeld _ args.f _ (
      λ z. absurd (c.if-i-eq0.false z),
      (
        λ z. (a_number (bits c.in-Is-parse_float.x), took_number args.text.now args.c _ _ t.0, random_min args.f _ t.1),
        (λ z. absurd (omega arith), tt),
      ),
    )

pub returns-in-Refused-parse_float : goal.returns-in-Refused-parse_float
unfolding random_fields
returns-in-Refused-parse_float c =
    let args = c.args in
    let h = no_number args.text.now args.c _ _ (rw c.in-Refused-parse_float.is at c.parse_float.ensures) in
    refused_row random_fields args.text.now args.c args.i _ _ (λ z. absurd (c.if-i-eq0.false z), (λ z. h, (λ z. h, tt)))

pub returns-else-i-eq1 : goal.returns-else-i-eq1
unfolding random_fields
returns-else-i-eq1 c =
    let args = c.args in
    let t = rw c.in-Is-parse_float.is at c.parse_float.ensures in
    took_row random_fields args.text.now args.c args.i RandomHeld _ args.f _ (
      λ z. absurd (c.if-i-eq0.false z),
      (
        λ z. absurd (c.if-i-eq1.false z),
        (
          λ z. (a_number (bits c.in-Is-parse_float.x), took_number args.text.now args.c _ _ t.0, random_max args.f _ t.1),
          tt,
        ),
      ),
    )
