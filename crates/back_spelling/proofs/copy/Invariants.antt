use Rattle.back_spelling.proofs.PageLaws.{Copied}
use Rattle.back_spelling.proofs.copy.Given as goal

abbrev pub invariant-loop-i : goal.invariant-loop-i
invariant-loop-i l = Copied l.initial.out l.at l.part l.out l.i
