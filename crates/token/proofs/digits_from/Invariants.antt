use Rattle.token.proofs.ShortLaws.{Reading}
use Rattle.token.proofs.digits_from.Given as goal

abbrev pub invariant-loop-i : goal.invariant-loop-i
invariant-loop-i l = Reading l.t l.seed l.from l.most l.value l.i
