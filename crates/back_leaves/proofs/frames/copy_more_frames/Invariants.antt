use lib.ListN.{length}
use Rattle.sheet.specs.Sheet.{entry_form}
use Rattle.back_spelling.specs.Means.{page_of}
use Rattle.back_copying.proofs.CopyLaws.{Walked}
use Rattle.back_leaves.specs.Means.{frames_of, comma_frames}
use Rattle.back_leaves.proofs.frames.copy_more_frames.Given as goal

abbrev pub invariant-loop-k : goal.invariant-loop-k
invariant-loop-k l =
    Walked (entry_form (length l.text)) (λ xs. comma_frames (frames_of l.text xs)) l.s l.at l.n (page_of l.fn.writer) (page_of l.writer) l.next l._k
