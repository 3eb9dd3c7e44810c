use lib.ListN.{take}
use Rattle.order.specs.Means.{calls_in}
use Rattle.order.proofs.ListLaws.{Coming}
use Rattle.order.proofs.list.Given as goal

abbrev pub invariant-loop-k : goal.invariant-loop-k
invariant-loop-k l = Coming (calls_in l.calls) l.n l.k (take l.k l.out)
