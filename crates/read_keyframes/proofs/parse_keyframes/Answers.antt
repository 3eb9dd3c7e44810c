-- `read_keyframes::parse_keyframes` meets its contract.
use native.Mathlib.Omega.{arith}
use Rattle.read_keyframes.proofs.TrackLaws.{keyframes_node, no_brace, no_target}
use lib.ListN.{length}
use Rattle.read_keyframes.proofs.parse_keyframes.Goals as goal

pub track_value-requires : goal.track_value-requires
track_value-requires c =
    let pre = c.requires in (
      (rw c.in-Is-mark.is at c.mark.ensures).ready,
      record {
        short = pre.1.short;
        low = let p = (c.put_span-track_at.ensures 0).place in omega (arith, pre.1.low);
      },
    )

pub returns-in-Missing : goal.returns-in-Missing
returns-in-Missing c = no_target (rw c.in-Missing.is at c.word.ensures)

pub returns-in-Missing-mark : goal.returns-in-Missing-mark
returns-in-Missing-mark c =
    no_brace c.in-Is.target (rw c.in-Is.is at c.word.ensures).0
    (rw c.in-Missing-mark.is at c.mark.ensures)

pub returns-in-Is-mark : goal.returns-in-Is-mark
returns-in-Is-mark c =
    let args = c.args in
    let t = rw c.in-Is.is at c.word.ensures in
    keyframes_node c.in-Is.target t.0 t.1 (rw c.in-Is-mark.is at c.mark.ensures)
    (c.put_span-track_at.ensures (length args.text.now)) c.track_value.ensures
