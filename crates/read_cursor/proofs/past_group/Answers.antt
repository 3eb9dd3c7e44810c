-- `read_cursor::past_group` meets its contract.
use Prim.Native.Nat.{◌-◌}
use Rattle.token.specs.Token.{Kind}
use Rattle.read_cursor.proofs.CursorLaws.{head_told, leaving_closes, leaving_goes, leaving_halts, leaving_moves}
use mathlib.Core.Path.{ap, sym, ◌∙◌}
use native.Mathlib.Omega.{arith}
use Rattle.read_cursor.specs.Means.{pass_of}
use Rattle.grammar.specs.Rule.{weigh}
use Rattle.read_cursor.proofs.past_group.Goals as goal

pub returns-in-Halts : goal.returns-in-Halts
returns-in-Halts c =
    let args = c.args in
    leaving_halts
    args.text.now
    args.c
    c.loop-m.m
    c.loop-m.d
    c.loop-m.invariant
    (ap (λ (k : Kind). weigh k c.loop-m.d) (head_told args.text.now c.loop-m.m c.loop-m.invariant.ready _ c.kind-k.ensures)
    ∙ sym (c.pass_of.ensures _ _) ∙ ap pass_of c.in-Halts.is)

pub returns-in-Closes : goal.returns-in-Closes
returns-in-Closes c =
    let args = c.args in
    leaving_closes
    args.text.now
    args.c
    c.loop-m.m
    c.loop-m.d
    c.loop-m.invariant
    c.advance.result
    c.advance.ensures
    (ap (λ (k : Kind). weigh k c.loop-m.d) (head_told args.text.now c.loop-m.m c.loop-m.invariant.ready _ c.kind-k.ensures)
    ∙ sym (c.pass_of.ensures _ _) ∙ ap pass_of c.in-Closes.is)

pub loop-m-smaller : goal.loop-m-smaller
loop-m-smaller c =
    let args = c.args in
    let a = leaving_moves args.text.now args.c c.loop-m.m c.loop-m.d c.loop-m.invariant c.advance-m.result c.advance-m.ensures _
    (ap (λ (k : Kind). weigh k c.loop-m.d) (head_told args.text.now c.loop-m.m c.loop-m.invariant.ready _ c.kind-k.ensures)
    ∙ sym (c.pass_of.ensures _ _) ∙ ap pass_of c.in-Goes.is)
    in
    omega (arith, c.advance-m.ensures.ready.high)

pub loop-m-preserved : goal.loop-m-preserved
loop-m-preserved c =
    let args = c.args in
    leaving_goes
    args.text.now
    args.c
    c.loop-m.m
    c.loop-m.d
    c.loop-m.invariant
    c.advance-m.result
    c.advance-m.ensures
    _
    (ap (λ (k : Kind). weigh k c.loop-m.d) (head_told args.text.now c.loop-m.m c.loop-m.invariant.ready _ c.kind-k.ensures)
    ∙ sym (c.pass_of.ensures _ _) ∙ ap pass_of c.in-Goes.is)
