use Rattle.read_keyframes.proofs.TrackLaws.{Tracked}
use lib.ListN.{length}
use Prim.Native.Nat.{◌-◌}
use Rattle.read_cursor.specs.WordMeans.{at_of}
use Rattle.read_keyframes.proofs.track_items.Given as goal

abbrev pub invariant-loop-r : goal.invariant-loop-r
invariant-loop-r l = Tracked l.text l.initial.sheet l.sheet l.initial.t.next l.out l.t

abbrev pub decreases-loop-r : goal.decreases-loop-r
decreases-loop-r l = length l.text - at_of l.t.next
