use Prim.Native.Nat.{◌-◌}
use lib.ListN.{length}
use Rattle.books.specs.Book.{book}
use Rattle.calls.proofs.BodyLaws.{Noting}
use Rattle.calls.proofs.note_calls.Given as goal

abbrev pub invariant-loop-at : goal.invariant-loop-at
invariant-loop-at l = Noting l.text l.sheet l.initial.calls l.calls (book l.text) l.i l.at

abbrev pub decreases-loop-at : goal.decreases-loop-at
decreases-loop-at l = length l.sheet - l.at
