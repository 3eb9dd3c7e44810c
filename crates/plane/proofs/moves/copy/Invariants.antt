use Rattle.plane.proofs.MoveLaws.{Copied}
use Rattle.plane.proofs.moves.copy.Given as goal

abbrev pub invariant-loop-m : goal.invariant-loop-m
invariant-loop-m l = Copied l.src l.from l.initial.out l.to l.k l.m l.out
