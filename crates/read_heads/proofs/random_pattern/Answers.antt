use Rattle.read_heads.proofs.HeadLaws.{no_random, nought, tenth, took_random}
use lib.Ieee.{is_nan, of_bits}
use Rattle.read_values.proofs.ValueLaws.{inside_missing, inside_refused}
use Rattle.grammar.specs.Fields.{pairs}
use Rattle.grammar.specs.Grammar.{random_fields}
use Rattle.read_heads.proofs.random_pattern.Goals as goal

pub returns-in-Missing : goal.returns-in-Missing
returns-in-Missing c =
    let args = c.args in
    no_random args.text.now args.c _ _
    (inside_missing args.text.now 40 (pairs random_fields) args.c _ (rw c.in-Missing.is at c.mark.ensures))

pub returns-in-Refused : goal.returns-in-Refused
returns-in-Refused c =
    let args = c.args in
    no_random args.text.now args.c _ _
    (inside_refused args.text.now 40 (pairs random_fields) args.c _ (rw c.in-Is.is at c.mark.ensures) _ _
    (rw c.in-Refused.is at c.random_fields.ensures))

pub returns-in-Is-random_fields : goal.returns-in-Is-random_fields
unfolding is_nan of_bits
returns-in-Is-random_fields c =
    let args = c.args in
    took_random
    args.text.now
    args.c
    _ _ _
    c.in-Is-random_fields.f
    (rw c.in-Is.is at c.mark.ensures)
    (rw c.in-Is-random_fields.is at c.random_fields.ensures)
    c.leave_group.ensures
    _ _ _ _ _
    c.word_or-seed.ensures
    c.float_or-min.ensures
    c.float_or-max.ensures
    nought tenth tt tt
