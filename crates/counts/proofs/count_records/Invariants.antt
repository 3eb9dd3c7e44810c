use Prim.Native.Nat.{◌-◌}
use Rattle.sheet.specs.Sheet.{decode}
use lib.ListN.{length}
use Rattle.feeding.specs.Feed.{nodes_in}
use Rattle.counts.proofs.WalkLaws.{Counting}
use Rattle.counts.proofs.count_records.Given as goal

abbrev pub invariant-loop-end : goal.invariant-loop-end
invariant-loop-end l = Counting l.text_len l.sheet (nodes_in (decode l.text_len l.sheet)) l.initial.totals l.totals l.end

abbrev pub decreases-loop-end : goal.decreases-loop-end
decreases-loop-end l = length l.sheet - l.end
