use Rattle.std.specs.Prelude.{Some}
use Rattle.read_heads.proofs.StaggerLaws.{by_opening, marked_refused, marked_took, with_delay, with_pattern}
use Rattle.error.specs.declared.Refusal.TheVariants.{Missing}
use Rattle.read_heads.specs.declared.OpeningRead.TheVariants.{Is, Refused}
use native.Mathlib.Omega.{arith}
use Rattle.grammar.specs.Grammar.{opening_fields, parse_stagger_pattern}
use Rattle.read_heads.specs.Means.{opening_of}
use Rattle.grammar.specs.Values.{parse_float}
use Rattle.read_heads.proofs.opening_value.Goals as goal

pub returns-in-Refused : goal.returns-in-Refused
unfolding opening_fields
returns-in-Refused c =
    let args = c.args in
    let h = marked_refused args.text.now 58 parse_stagger_pattern (with_pattern (opening_of args.f)) args.c _
    (rw c.in-Is.is at c.mark.ensures) _ _
    (rw c.in-Refused.is at c.parse_stagger_pattern.ensures)
    in
    by_opening args.text.now args.c args.f args.i (Refused c.in-Refused.r c.in-Refused.p)
    (λ z. h, (λ z. absurd (omega arith), tt))

pub returns-in-Is-parse_stagger_pattern : goal.returns-in-Is-parse_stagger_pattern
unfolding opening_fields
returns-in-Is-parse_stagger_pattern c =
    let args = c.args in
    let t = rw c.in-Is-parse_stagger_pattern.is at c.parse_stagger_pattern.ensures in
    let h = marked_took args.text.now 58 parse_stagger_pattern (with_pattern (opening_of args.f)) args.c _
    (rw c.in-Is.is at c.mark.ensures) _ _ t.0
    in
    by_opening
    args.text.now
    args.c
    args.f
    args.i
    (Is (record { pattern = Some c.in-Is-parse_stagger_pattern.x; delay = args.f.delay }) c.in-Is-parse_stagger_pattern.n)
    (λ z. (h, (t.1, c.requires.1.1)), (λ z. absurd (omega arith), tt))

pub returns-in-Missing : goal.returns-in-Missing
unfolding opening_fields
returns-in-Missing c =
    let args = c.args in
    let h = rw c.in-Missing.is at c.mark.ensures in
    by_opening args.text.now args.c args.f args.i (Refused Missing c.in-Missing.p) (λ z. rw h, (λ z. rw h, tt))

pub returns-in-Refused-parse_float : goal.returns-in-Refused-parse_float
unfolding opening_fields
returns-in-Refused-parse_float c =
    let args = c.args in
    let h = marked_refused args.text.now 58 parse_float (with_delay (opening_of args.f)) args.c _
    (rw c.in-Is.is at c.mark.ensures) _ _ (rw c.in-Refused-parse_float.is at c.parse_float.ensures)
    in
    by_opening args.text.now args.c args.f args.i (Refused c.in-Refused-parse_float.r c.in-Refused-parse_float.p)
    (λ z. absurd (c.if-i-eq0.false z), (λ z. h, tt))

pub returns-in-Is-parse_float : goal.returns-in-Is-parse_float
unfolding opening_fields
returns-in-Is-parse_float c =
    let args = c.args in
    let t = rw c.in-Is-parse_float.is at c.parse_float.ensures in
    let h = marked_took args.text.now 58 parse_float (with_delay (opening_of args.f)) args.c _
    (rw c.in-Is.is at c.mark.ensures) _ _ t.0
    in
    by_opening
    args.text.now
    args.c
    args.f
    args.i
    (Is (record { pattern = args.f.pattern; delay = Some c.in-Is-parse_float.x }) c.in-Is-parse_float.n)
    (λ z. absurd (c.if-i-eq0.false z), (λ z. (h, (c.requires.1.0, t.1)), tt))
