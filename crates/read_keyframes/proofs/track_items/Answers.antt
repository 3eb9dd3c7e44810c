-- `read_keyframes::track_items` meets its contract.
use Rattle.read_keyframes.proofs.TrackLaws.{tracked_standing, tracked_refused, tracked_more, tracked_last}
use Rattle.read_keyframes.proofs.track_items.Goals as goal

pub track_step-requires : goal.track_step-requires
track_step-requires c =
    let args = c.args in
    tracked_standing
    args.text.now
    args.sheet.now
    c.loop-r.sheet
    args.c
    args.out
    c.loop-r.t
    c.loop-r.invariant
    c.requires.1

pub returns-in-Refused : goal.returns-in-Refused
returns-in-Refused c =
    let args = c.args in
    tracked_refused
    args.text.now
    args.sheet.now
    c.loop-r.sheet
    args.c
    args.out
    c.loop-r.t
    c.loop-r.invariant
    _ _
    (rw c.in-Refused.is at c.track_step.ensures)

pub returns-in-Done : goal.returns-in-Done
returns-in-Done c =
    let args = c.args in
    tracked_last
    args.text.now
    args.sheet.now
    c.loop-r.sheet
    args.c
    args.out
    c.loop-r.t
    c.loop-r.invariant
    _ _
    (rw c.in-Done.is at c.track_step.ensures)

pub loop-r-preserved : goal.loop-r-preserved
loop-r-preserved c =
    let args = c.args in
    tracked_more
    args.text.now
    args.sheet.now
    c.loop-r.sheet
    args.c
    args.out
    c.loop-r.t
    c.loop-r.invariant
    _ _
    (rw c.in-More.is at c.track_step.ensures)
