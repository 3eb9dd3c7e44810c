use Prim.Native.Nat.{◌+◌, ◌≤◌}
use mathlib.Core.Path.{◌≡◌}
use lib.ListN.{length}
use Rattle.text.specs.Words.{entries, find, table}
use Rattle.text.proofs.find.Given as goal

abbrev pub invariant-loop-size : goal.invariant-loop-size
invariant-loop-size l = record { within : l.i + length l.rest ≤ length l.names; rest : find (table l.names) 0 l.word ≡ find (entries 0 l.rest) l.i l.word }

abbrev pub decreases-loop-size : goal.decreases-loop-size
decreases-loop-size l = length l.rest
