-- `calls::fill` meets its contract.
use Prim.Native.Nat.{ℕ}
use mathlib.Core.Path.{sym, ap, ◌∙◌}
use native.Mathlib.Omega.{arith}
use lib.ListN.{length, length-replicate}
use Rattle.calls.proofs.FillLaws.{filling_start}
use Rattle.book.proofs.HeldLaws.{short_text, few_items}
use Rattle.calls.proofs.FillLaws.{filling_refused, filling_sheet, filling_more, filling_done}
use Rattle.calls.proofs.fill.Goals as goal

pub first-c-requires : goal.first-c-requires
first-c-requires c = short_text c.requires.0

pub loop-i-init : goal.loop-i-init
loop-i-init c = filling_start c.first-c.ensures c.requires.1 (length-replicate {A = ℕ} 49152 0)

pub parse_item-requires : goal.parse_item-requires
parse_item-requires c = c.loop-i.invariant.walked.ready

pub shape_of-calls-in-Refused : goal.shape_of-calls-in-Refused
shape_of-calls-in-Refused c = c.loop-i.invariant.size ∙ sym (ap length c.requires.1 ∙ length-replicate {A = ℕ} 16384 0)

pub returns-in-Refused : goal.returns-in-Refused
returns-in-Refused c xs e =
    absurd (filling_refused c.requires.0 c.loop-i.invariant c.loop-i-test.true
    (rw c.in-Refused.is at c.parse_item.ensures))

pub note_calls-requires : goal.note_calls-requires
note_calls-requires c =
    let pre = c.requires in
    let g = rw c.in-Is.is at c.parse_item.ensures in (
      pre.0,
      few_items pre.0,
      omega (arith, few_items pre.0, c.loop-i-test.true),
      c.loop-i.invariant.size,
      rw c.part.ensures (filling_sheet pre.0 c.loop-i.invariant c.loop-i-test.true g),
    )

pub overflow_add-i : goal.overflow_add-i
overflow_add-i c = omega (arith, few_items c.requires.0, c.loop-i-test.true)

pub loop-i-smaller : goal.loop-i-smaller
loop-i-smaller c = omega (arith, c.loop-i-test.true)

pub loop-i-preserved : goal.loop-i-preserved
loop-i-preserved c =
    let g = rw c.in-Is.is at c.parse_item.ensures in
    filling_more
    c.requires.0
    c.loop-i.invariant
    c.loop-i-test.true
    g
    (c.parse_item.auto.sheet ∙ c.loop-i.invariant.room)
    (λ xs e ns d. c.note_calls.ensures xs e ns (rw c.part.ensures d))
    (c.note_calls.auto.calls ∙ c.loop-i.invariant.size)

pub shape_of-calls : goal.shape_of-calls
shape_of-calls c = c.loop-i.invariant.size ∙ sym (ap length c.requires.1 ∙ length-replicate {A = ℕ} 16384 0)

pub returns : goal.returns
returns c = filling_done c.requires.0 c.loop-i.invariant c.loop-i-test.false
