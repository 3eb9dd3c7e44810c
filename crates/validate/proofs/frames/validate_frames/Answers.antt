-- `validate::frames::validate_frames` meets its contract: the outer loop has passed the frames before i and keeps their times, the inner
-- one has tried the first j of these; those from a faulty one on are left.
use mathlib.Core.Path.{refl, sym, ap, ◌∙◌}
use Rattle.node_rules.specs.Means.{fault_of}
use native.Mathlib.Omega.{arith}
use lib.ListN.{length-set}
use Rattle.validate.proofs.FrameLaws as frames
use Rattle.validate.proofs.frames.validate_frames.Goals as goal
use Rattle.validate.proofs.frames.validate_frames.Goals.{else-frames-test, then-frames-test+then-loop-j-test+then-is_duplicate, then-frames-test+else-loop-j-test+then-is_err}

pub frames-init : goal.frames-init
frames-init c =
    let args = c.args in
    (omega arith, refl, refl, frames.going_start args.text.now args.s.now args.first args.count _)

pub loop-j-preserved : goal.loop-j-preserved
loop-j-preserved c =
    frames.tried_next
    c.frames.times
    _ _
    (omega arith)
    (omega (arith, c.requires, c.frames.invariant.0, c.frames.invariant.1))
    (sym c.is_duplicate.ensures ∙ c.if-is_duplicate.false)
    c.loop-j.invariant

pub frames-preserved : goal.frames-preserved
frames-preserved c = (
  omega arith,
  length-set c.frames.times _ _ ∙ c.frames.invariant.1,
  frames.held _ (sym c.is_err.ensures.value ∙ c.if-is_err.false),
  frames.going_next
      c.frames.invariant.3
      c.frames-test.true
      c.take_entry-frame.ensures
      (frames.tried_end c.frames.times _ (omega arith) c.loop-j.invariant)
      (frames.entry_tells _ _ _ c.is_err.ensures.value c.validate_easing-fault.ensures.told)
      c.if-is_err.false
      (omega (arith, c.requires, c.frames.invariant.1, c.frames-test.true)),
)

pub returns : goal.returns
returns c =
    let inv = c.frames.invariant in
    λ m rest. elim c.frames-test.branch [
      | else-frames-test w ↦ rw (ap fault_of w.fault-is ∙ inv.2) (frames.going_done inv.3 w.frames-test.false rest)
      | then-frames-test+then-loop-j-test+then-is_duplicate w ↦
          rw w.fault-is
          (frames.duplicate_found inv.3 w.frames-test.true w.take_entry-frame.ensures
          (frames.tried_hit c.frames.times _ _ (omega arith) (omega (arith, c.requires, inv.0, inv.1))
          (sym w.is_duplicate.ensures ∙ w.if-is_duplicate.true) w.loop-j.invariant)
          rest)
      | then-frames-test+else-loop-j-test+then-is_err w ↦
          rw (ap fault_of w.fault-is ∙ frames.broken _ _ w.validate_easing-fault.ensures.held (sym w.is_err.ensures.value ∙ w.if-is_err.true))
          (frames.easing_unknown inv.3 w.frames-test.true w.take_entry-frame.ensures
          (frames.tried_end c.frames.times _ (omega arith) w.loop-j.invariant)
          (frames.entry_tells _ _ _ w.is_err.ensures.value w.validate_easing-fault.ensures.told) w.if-is_err.true rest)
    ]
