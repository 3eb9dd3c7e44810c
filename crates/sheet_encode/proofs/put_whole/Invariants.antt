use Rattle.sheet_encode.proofs.FieldLaws.{Filling}
use Rattle.sheet_encode.proofs.put_whole.Given as goal

abbrev pub invariant-loop-k : goal.invariant-loop-k
invariant-loop-k l = Filling l.initial.sheet l.at l.width l.v l.sheet l.k l.rest
