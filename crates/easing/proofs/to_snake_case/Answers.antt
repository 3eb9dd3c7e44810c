-- `easing::to_snake_case` meets its contract; the loop keeps that what is written from here on is written from its start, to which the
-- first byte is joined.
use Prim.Native.Nat.{ℕ}
use mathlib.Core.List.{List, ◌∷◌}
use mathlib.Core.Path.{◌≡◌, ◌∙◌}
use native.Mathlib.Omega.{arith}
use lib.ListN.{drop}
use Rattle.easing.proofs.NameLaws.{rest_end, snake-first, rest_at, snake_nil}
use Rattle.easing.specs.Names.{snake_rest, snake}
use Rattle.text.proofs.WriteLaws.{puts_then, puts_none, puts_full}
use Rattle.text.specs.WriteMeans.{Puts}
use Rattle.easing.proofs.to_snake_case.Goals.{At-loop-b}
use Rattle.easing.proofs.to_snake_case.Goals as goal

-- what is written from the loop on is written from the start, behind the first byte
whole : (at-loop : At-loop-b) →
    (after : List ℕ) (end : ℕ)
    → Puts at-loop.loop-b.out at-loop.loop-b.n (snake_rest (drop at-loop.loop-b.b-index at-loop.in-Some.rest.now)) after end
    → Puts at-loop.args.out.now 0 (snake at-loop.args.w.now) after end
whole at-loop after end p =
    let s : at-loop.args.w.now ≡ at-loop.in-Some.field-0-0.now ∷ at-loop.in-Some.rest.now = at-loop.in-Some.ensures.cases.0 in
    rw (snake-first _ _ at-loop.lower.result _ s at-loop.lower.ensures)
    (puts_then at-loop.put-n.ensures (at-loop.loop-b.invariant.1 after end p))

pub returns-in_default : goal.returns-in_default
returns-in_default c = rw (snake_nil c.args.w.now c.in_default.ensures.cases) (puts_none _ 0)

pub returns-then-out-n : goal.returns-then-out-n
returns-then-out-n c = whole (goal.at.returns-then-out-n c).At-loop-b _ _ (puts_full _ _ _ c.if-out-n.true)

pub loop-b-preserved : goal.loop-b-preserved
loop-b-preserved c = (
  c.put_snake-n.auto.out ∙ c.loop-b.invariant.0,
  λ after end p. c.loop-b.invariant.1 after end
      (rw (rest_at c.in-Some.rest.now c.loop-b.b-index (omega arith)) (puts_then c.put_snake-n.ensures p)),
)

pub returns : goal.returns
returns c = whole (goal.at.returns c).At-loop-b _ _ (rw (rest_end c.in-Some.rest.now c.loop-b.b-index (omega arith)) (puts_none _ _))
