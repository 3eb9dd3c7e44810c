use Rattle.line.proofs.PutLaws.{Writing}
use Rattle.line.proofs.put_whole.Given as goal

abbrev pub invariant-loop-i : goal.invariant-loop-i
invariant-loop-i l = Writing l.initial.out l.at l.bytes l.out l.i
