use Rattle.back_spelling.specs.Means.{page_of}
use Rattle.sheet.specs.Sheet.{word}
use Rattle.fresh.specs.Fresh.{more_floats}
use Rattle.back_copying.proofs.CopyLaws.{Walked}
use Rattle.back_copying.proofs.values.copy_more_floats.Given as goal

abbrev pub invariant-loop-k : goal.invariant-loop-k
invariant-loop-k l = Walked word more_floats l.s l.at l.n (page_of l.fn.writer) (page_of l.writer) l.next l._k
